use Rattle.series_selection.proofs.Walk.{row_is_read}
use Rattle.series_selection.proofs.rows.read_row.Goals as goal

pub returns-clause-read : goal.returns-clause-read
returns-clause-read c = row_is_read c.args.index.now c.args.place c.row_numbers.result c.row_numbers.ensures.exact c.row_numbers.ensures.rises c.row_numbers.ensures.found
