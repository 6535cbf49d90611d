use Rattle.std.proofs.Common.{◌≡◌, map, take}
use Rattle.index_parts.specs.SeriesEntry.{reference_of}
use Rattle.store_ranges.proofs.references.references_of.Given as goal

abbrev pub invariant-loop-place : goal.invariant-loop-place
invariant-loop-place l = l.references.items ≡ map reference_of (take l.place-index l.places)
