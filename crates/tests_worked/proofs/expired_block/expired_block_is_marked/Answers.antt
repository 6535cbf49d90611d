use Rattle.tests_worked.proofs.expired.ExpiredBreach as row
use Rattle.tests_worked.proofs.expired_block.expired_block_is_marked.Goals as goal

pub returns : goal.returns
returns c = record { first = row.first_mark; cause = row.marked_for; decides = row.decides }
