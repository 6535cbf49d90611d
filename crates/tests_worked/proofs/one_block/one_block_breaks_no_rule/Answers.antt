use Rattle.tests_worked.proofs.one.OneUnbroken.{unbroken}
use Rattle.tests_worked.proofs.one_block.one_block_breaks_no_rule.Goals as goal

pub returns : goal.returns
returns c = unbroken
