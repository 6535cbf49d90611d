use Rattle.tests_worked.proofs.one.OneGuaranteed.{guaranteed}
use Rattle.tests_worked.proofs.one_block.one_block_is_guaranteed.Goals as goal

pub returns : goal.returns
returns c = guaranteed
