use Rattle.store_ranges.specs.Asking.{query_asked, block_asked}
use Rattle.store_chunks.proofs.RowSamples.{RowsLeft}
use Rattle.store_chunks.proofs.row_shown.rows_shown.Given as goal

abbrev pub invariant-loop-one : goal.invariant-loop-one
invariant-loop-one l = RowsLeft (query_asked l.asked) (block_asked l.asked) l.fn.rows.items l.series l.made.items l.one-index l.left.items
