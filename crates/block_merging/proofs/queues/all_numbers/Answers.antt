use Rattle.std.proofs.Common.{inl, ap}
use Rattle.index_v2.specs.Held.{Held}
use Rattle.block_merging.proofs.queues.all_numbers.Goals as goal

pub only_memory-requires : goal.only_memory-requires
only_memory-requires c = let (index, list, is, same) = c.requires in c.in-Err.ensures.wanting index list is (inl (ap (λ (h : Held). h.bytes) same))
