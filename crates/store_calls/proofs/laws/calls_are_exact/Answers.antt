use Rattle.store_calls.proofs.ExactCalls.{answer_exact}
use Rattle.store_calls.proofs.laws.calls_are_exact.Goals as goal

pub returns : goal.returns
returns c = answer_exact
