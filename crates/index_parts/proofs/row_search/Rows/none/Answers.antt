use Rattle.std.proofs.Common.{arith}
use Rattle.index_parts.proofs.RowPlaces.{no_rows_ascend}
use Rattle.index_parts.proofs.row_search.Rows.none.Goals as goal

pub invariant_of-result : goal.invariant_of-result
invariant_of-result c = (no_rows_ascend, omega arith)
