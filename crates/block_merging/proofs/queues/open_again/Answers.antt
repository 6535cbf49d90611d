use Rattle.block_merging.proofs.Putting.{wanting}
use Rattle.block_merging.proofs.queues.open_again.Goals as goal

pub only_memory-requires : goal.only_memory-requires
only_memory-requires c = wanting c.in-Err.refusal _ (c.in-Err.ensures.only c.requires.0 c.requires.1 c.requires.2)
