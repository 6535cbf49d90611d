use Rattle.tests_worked.proofs.one.OneRefused.{meta_absent_refused}
use Rattle.tests_worked.proofs.one_block_changed.read_of_absent_block_is_refused.Goals as goal

pub returns : goal.returns
returns c = meta_absent_refused
