use Rattle.store_calls.proofs.RangeLaws.{answer_in}
use Rattle.store_calls.proofs.laws.answers_lie_in_the_range.Goals as goal

pub returns : goal.returns
returns c = answer_in
