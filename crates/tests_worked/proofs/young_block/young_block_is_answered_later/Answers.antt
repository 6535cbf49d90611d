use Rattle.tests_worked.specs.YoungBlock.{early, late, early_turned, late_turned}
use Rattle.tests_worked.proofs.young.YoungAnswers.{some_given, some_exact}
use Rattle.tests_worked.proofs.young_block.young_block_is_answered_later.Goals as goal

pub returns : goal.returns
returns c = record { given = some_given early late; turned_given = some_given early_turned late_turned; exact = some_exact }
