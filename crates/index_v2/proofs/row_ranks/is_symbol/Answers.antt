use Rattle.std.proofs.Common.{sym}
use Rattle.index_v2.proofs.RowRanks.{symbol_is}
use Rattle.index_v2.proofs.row_ranks.is_symbol.Goals as goal

pub returns-in-Some : goal.returns-in-Some
returns-in-Some c = λ e. symbol_is _ _ _ _ _ c.in-Some.ensures.are (sym c.in-Some.ensures.value) c.eq.ensures e
