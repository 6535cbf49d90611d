use Rattle.tests_worked.proofs.one.OneRefused.{no_look_refused}
use Rattle.tests_worked.proofs.one_block_changed.put_without_look_is_refused.Goals as goal

pub returns : goal.returns
returns c = no_look_refused
