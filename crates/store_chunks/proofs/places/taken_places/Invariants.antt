use Rattle.std.proofs.Common.{◌≡◌, take}
use Rattle.std.specs.List.{flat_map}
use Rattle.store_ranges.specs.Asking.{query_asked}
use Rattle.store_chunks.specs.Taken.{taken}
use Rattle.store_chunks.proofs.places.taken_places.Given as goal

abbrev pub invariant-loop-one : goal.invariant-loop-one
invariant-loop-one l = l.places.items ≡ flat_map (taken (query_asked l.asked)) (take l.one-index l.series)
