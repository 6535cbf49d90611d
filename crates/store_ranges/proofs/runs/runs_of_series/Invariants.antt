use Rattle.store_ranges.specs.IndexRanges.{Follows}
use Rattle.store_ranges.proofs.Cutting.{IsCutUpto}
use Rattle.store_ranges.proofs.runs.runs_of_series.Given as goal

abbrev pub invariant-loop-place : goal.invariant-loop-place
invariant-loop-place l = IsCutUpto (Follows l.all) l.numbers l.runs.items l.start l.place
