use Rattle.std.proofs.Common.{map}
use Rattle.index_v2.specs.LentLabels.{as_label}
use Rattle.block_merging.specs.Placed.{chunk_of}
use Rattle.block_merging.proofs.AllQueues.{TakenSoFar}
use Rattle.block_merging.proofs.group_taking.take_group.Given as goal

abbrev pub invariant-loop-place : goal.invariant-loop-place
invariant-loop-place l = TakenSoFar l.external l.replicas (map as_label l.labels) l.fn.queues.items l.queues.items l.place (map chunk_of l.chunks.items)
