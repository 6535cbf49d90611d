use Rattle.tests_worked.proofs.expired.ExpiredBlock as row
use Rattle.tests_worked.proofs.expired.ExpiredBreach.{hasty_breach}
use Rattle.tests_worked.proofs.expired_block.late_mark_is_the_breach.Goals as goal

pub returns : goal.returns
returns c = record { run = row.hasty_run; finished = row.hasty_finished; breach = hasty_breach }
