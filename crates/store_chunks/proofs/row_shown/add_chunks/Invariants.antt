use Rattle.store_chunks.proofs.RowsApart.{ApartSo}
use Rattle.store_chunks.proofs.row_shown.add_chunks.Given as goal

abbrev pub invariant-loop-chunk : goal.invariant-loop-chunk
invariant-loop-chunk l = ApartSo l.initial.apart.items l.samples l.chunks l.apart.items l.chunk-index l.left
