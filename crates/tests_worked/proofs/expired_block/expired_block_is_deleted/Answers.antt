use Rattle.tests_worked.proofs.expired.ExpiredBlock as row
use Rattle.tests_worked.proofs.expired_block.expired_block_is_deleted.Goals as goal

pub returns : goal.returns
returns c = record { run = row.run; finished = row.finished; honest = row.honest }
