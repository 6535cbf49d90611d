use Rattle.std.proofs.Common.{arith, sym}
use Rattle.index_v2.proofs.RowRanks.{rows_more, rows_end}
use Rattle.index_v2.proofs.row_ranks.rows_ranks.Goals as goal

pub loop-place-preserved : goal.loop-place-preserved
loop-place-preserved c = rows_more _ _ c.loop-place.place _ _ _ _ c.loop-place.invariant (sym c.in-Some.ensures) c.row_ranks-last.ensures c.in_ok-push.ensures.items

pub returns : goal.returns
returns c = rows_end _ _ c.loop-place.place _ c.loop-place.invariant (omega arith) (omega arith) c.requires
