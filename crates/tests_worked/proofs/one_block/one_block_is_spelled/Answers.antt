use Rattle.tests_worked.proofs.small.Texts.{one_spelled, one_lawful}
use Rattle.tests_worked.proofs.one_block.one_block_is_spelled.Goals as goal

pub returns : goal.returns
returns c = record { spelled = one_spelled; lawful = one_lawful }
