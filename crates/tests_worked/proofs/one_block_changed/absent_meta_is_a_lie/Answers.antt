use Rattle.tests_worked.proofs.one.OneRefused.{meta_absent_is_a_lie}
use Rattle.tests_worked.proofs.one_block_changed.absent_meta_is_a_lie.Goals as goal

pub returns : goal.returns
returns c = meta_absent_is_a_lie
