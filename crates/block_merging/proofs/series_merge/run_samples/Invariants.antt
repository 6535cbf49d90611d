use Rattle.std.proofs.Common.{take}
use Rattle.block_merging.proofs.Putting.{Read}
use Rattle.block_merging.proofs.series_merge.run_samples.Given as goal

abbrev pub invariant-loop-one : goal.invariant-loop-one
invariant-loop-one l = Read (take l.one-index l.one-items) l.samples.items
