use Rattle.index_v2.proofs.RowRanks.{RowsSoFar}
use Rattle.index_v2.proofs.row_ranks.rows_ranks.Given as goal

abbrev pub invariant-loop-place : goal.invariant-loop-place
invariant-loop-place l = RowsSoFar l.symbols l.rows l.place l.ranks.items
