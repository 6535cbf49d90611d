use Rattle.tests_worked.proofs.expired.ExpiredBreach as row
use Rattle.tests_worked.proofs.expired_block.expired_block_is_not_settled.Goals as goal

pub returns : goal.returns
returns c = record { unsettled = row.unsettled; covered = row.covered }
