use Rattle.block_content.proofs.ChunkOrders.{AscendSoFar, AscendWithin}
use Rattle.block_content.proofs.chunk_order.places_ascend.Given as goal

abbrev pub invariant-loop-one : goal.invariant-loop-one
invariant-loop-one l = AscendSoFar l.indexed l.before l.one-index

abbrev pub invariant-loop-place : goal.invariant-loop-place
invariant-loop-place l = AscendWithin l.indexed l.place-items l.before l.one-index l.place-index
