use Rattle.index_parts.proofs.RowsBegin.{begins_found, begins_missing}
use Rattle.index_parts.proofs.row_search.Rows.first_of.Goals as goal

pub returns-in-Ok-clause-begins : goal.returns-in-Ok-clause-begins
returns-in-Ok-clause-begins c = begins_found _ _ _ c.place_of.ensures.ascending c.in-Ok.ensures.found

pub returns-in-Err-clause-begins : goal.returns-in-Err-clause-begins
returns-in-Err-clause-begins c = begins_missing _ _ _ c.in-Err.ensures.absent
