use Rattle.std.proofs.Common.{length}
use Rattle.std.specs.List.{AllByRecursion}
use Rattle.base.specs.Lists.{joined}
use Rattle.block_merging.specs.Queues.{IsQueue, lefts_in}
use Rattle.block_merging.proofs.GroupsTaken.{WalkSoFar}
use Rattle.block_merging.proofs.block_merge.put_groups.Given as goal

abbrev pub invariant-loop-labels : goal.invariant-loop-labels
invariant-loop-labels l = AllByRecursion (IsQueue l.external l.replicas) l.queues.items
    × WalkSoFar l.fn.writer.plan (joined (lefts_in l.external l.replicas l.fn.queues.items)) (lefts_in l.external l.replicas l.queues.items) l.writer

abbrev pub decreases-loop-labels : goal.decreases-loop-labels
decreases-loop-labels l = length (joined (lefts_in l.external l.replicas l.queues.items))
