use Rattle.series_selection.proofs.Walk.{first_stand}
use Rattle.series_selection.proofs.rows.all_listed.Goals as goal

pub returns-clause-stand : goal.returns-clause-stand
returns-clause-stand c = first_stand c.args.index.now c.row_numbers.result c.row_numbers.ensures.exact c.row_numbers.ensures.found
