use Rattle.tests_worked.proofs.pair.MissedInput as row
use Rattle.tests_worked.proofs.missed_input.missed_input_is_explained.Goals as goal

pub returns : goal.returns
returns c = record { run = row.run; finished = row.finished; lie = row.is_lie; explained = row.explained }
