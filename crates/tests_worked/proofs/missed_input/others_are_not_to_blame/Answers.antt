use Rattle.tests_worked.proofs.pair.MissedInput as row
use Rattle.tests_worked.proofs.missed_input.others_are_not_to_blame.Goals as goal

pub returns : goal.returns
returns c = record { mark = row.no_mark; read = row.no_other }
