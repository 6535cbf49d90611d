use Rattle.tests_worked.proofs.one.OneBlock.{honest}
use Rattle.tests_worked.proofs.one_block.one_block_is_honest.Goals as goal

pub returns : goal.returns
returns c = honest
