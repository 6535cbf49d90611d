use Rattle.std.proofs.Common.{◌-◌, length}
use Rattle.block_merging.proofs.Sweeping.{SweptSoFar}
use Rattle.block_merging.proofs.series_merge.put_sorted.Given as goal

abbrev pub invariant-loop-start : goal.invariant-loop-start
invariant-loop-start l = SweptSoFar l.fn.writer l.labels l.sorted l.start l.writer

abbrev pub decreases-loop-start : goal.decreases-loop-start
decreases-loop-start l = length l.sorted - l.start
