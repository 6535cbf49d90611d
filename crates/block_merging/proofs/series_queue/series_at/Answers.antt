use Rattle.std.proofs.Common.{inl, inr}
use Rattle.block_merging.proofs.Putting.{wanting}
use Rattle.block_merging.proofs.series_queue.series_at.Goals as goal

pub only_memory-requires : goal.only_memory-requires
only_memory-requires c = wanting c.in-Err.refusal _ (c.in-Err.ensures.only c.requires.0 c.requires.1)

pub returns-in-Ok : goal.returns-in-Ok
returns-in-Ok c = λ series is. elim (c.in-Ok.ensures.only series is) [ inl found ↦ found | inr none ↦ absurd cc ]
