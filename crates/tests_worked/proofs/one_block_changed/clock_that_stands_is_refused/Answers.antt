use Rattle.tests_worked.proofs.one.OneRefused.{clock_refused}
use Rattle.tests_worked.proofs.one_block_changed.clock_that_stands_is_refused.Goals as goal

pub returns : goal.returns
returns c = clock_refused
