use Rattle.tests_worked.proofs.QueryAgain as row
use Rattle.tests_worked.proofs.query_again.second_query_reads_two_ranges.Goals as goal

pub returns : goal.returns
returns c = record { run = row.run; finished = row.finished; honest = row.honest }
