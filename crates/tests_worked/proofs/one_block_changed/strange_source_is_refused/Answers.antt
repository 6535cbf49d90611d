use Rattle.tests_worked.proofs.one.OneUnsound.{strange_refused}
use Rattle.tests_worked.proofs.one_block_changed.strange_source_is_refused.Goals as goal

pub returns : goal.returns
returns c = strange_refused
