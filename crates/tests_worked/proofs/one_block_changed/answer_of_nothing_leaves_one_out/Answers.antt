use Rattle.tests_worked.proofs.one.OneUnsound.{nothing_leaves_out}
use Rattle.tests_worked.proofs.one_block_changed.answer_of_nothing_leaves_one_out.Goals as goal

pub returns : goal.returns
returns c = nothing_leaves_out
