use Rattle.tests_worked.proofs.one.OneAnswer as answer
use Rattle.tests_worked.proofs.one_block.one_block_is_answered.Goals as goal

pub returns : goal.returns
returns c = record { given = answer.given; exact = answer.exact; named = answer.names; settled = answer.settled }
