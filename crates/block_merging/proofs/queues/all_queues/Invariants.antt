use Rattle.block_merging.proofs.AllQueues.{QueuesSoFar}
use Rattle.block_merging.proofs.queues.all_queues.Given as goal

abbrev pub invariant-loop-block : goal.invariant-loop-block
invariant-loop-block l = QueuesSoFar l.external l.replicas l.inputs l.block-index l.number l.queues.items
