use Rattle.std.proofs.Common.{◌-◌, map, length}
use Rattle.index_v2.specs.LentLabels.{as_label}
use Rattle.block_merging.specs.Placed.{chunk_of}
use Rattle.block_merging.specs.Queues.{IsQueue, left_in}
use Rattle.block_merging.proofs.QueueSteps.{FrontSoFar}
use Rattle.block_merging.proofs.series_queue.take_front.Given as goal

abbrev pub invariant-loop-alloc : goal.invariant-loop-alloc
invariant-loop-alloc l = IsQueue l.external l.replicas l.queue × FrontSoFar (map as_label l.labels) (left_in l.external l.replicas l.fn.queue) (left_in l.external l.replicas l.queue) (map chunk_of l.fn.chunks.items) (map chunk_of l.all.items)

abbrev pub decreases-loop-alloc : goal.decreases-loop-alloc
decreases-loop-alloc l = length l.queue.places.items - l.queue.taken
