use Rattle.index_writing.proofs.ChunkOrder.{IsLeft}
use Rattle.index_writing.proofs.order.are_in_order.Given as goal

abbrev pub invariant-loop-chunk : goal.invariant-loop-chunk
invariant-loop-chunk l = IsLeft l.chunks l.before l.chunk-index
