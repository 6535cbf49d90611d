use Rattle.std.proofs.Common.{◌≡◌, take}
use Rattle.std.specs.Prelude.{nat_lt}
use Rattle.std.specs.List.{filter}
use Rattle.store_ranges.specs.IndexRanges.{least}
use Rattle.store_ranges.proofs.ends.least_above.Given as goal

abbrev pub invariant-loop-reference : goal.invariant-loop-reference
invariant-loop-reference l = l.least ≡ least (filter (nat_lt l.place) (take l.reference-index l.references))
