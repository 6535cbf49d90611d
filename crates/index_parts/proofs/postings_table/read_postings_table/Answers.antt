use Rattle.index_parts.specs.Rows.{IsNextRow}
use Rattle.index_parts.specs.RowsReading.{row_at}
use Rattle.index_parts.proofs.RowLaws.{row_turn, row_size}
use Rattle.index_parts.proofs.ListLaws.{read_found, read_only, read_few}
use Rattle.index_parts.proofs.postings_table.read_postings_table.Goals as goal

pub returns-clause-found : goal.returns-clause-found
returns-clause-found c = read_found IsNextRow row_at row_turn (λ x. x) _ _ _ c.table_of.ensures.exact c.table_of.ensures.bytes

pub returns-clause-only : goal.returns-clause-only
returns-clause-only c = λ members is. read_only IsNextRow row_at row_turn (λ x. x) c.args.index.now c.args.at c.table_of.result c.table_of.ensures.exact members is

pub returns-clause-few : goal.returns-clause-few
returns-clause-few c = read_few IsNextRow row_at row_turn (λ x. x) _ c.args.at _ c.table_of.ensures.exact 4 row_size c.table_of.ensures.bytes
