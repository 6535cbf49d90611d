use Rattle.tests_worked.proofs.young.YoungAnswers.{young_left_out}
use Rattle.tests_worked.proofs.young_block.young_block_is_left_out.Goals as goal

pub returns : goal.returns
returns c = young_left_out
