use Rattle.tests_worked.proofs.small.Texts.{young_spelled, young_lawful}
use Rattle.tests_worked.proofs.young_block.young_block_is_spelled.Goals as goal

pub returns : goal.returns
returns c = record { spelled = young_spelled; lawful = young_lawful }
