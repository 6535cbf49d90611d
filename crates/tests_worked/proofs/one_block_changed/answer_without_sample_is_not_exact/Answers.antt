use Rattle.tests_worked.proofs.one.OneUnsound.{not_exact}
use Rattle.tests_worked.proofs.one_block_changed.answer_without_sample_is_not_exact.Goals as goal

pub returns : goal.returns
returns c = not_exact
