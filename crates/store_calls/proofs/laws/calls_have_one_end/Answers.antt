use Rattle.store_calls.proofs.OneCall.{call_tells}
use Rattle.store_calls.proofs.laws.calls_have_one_end.Goals as goal

pub returns : goal.returns
returns c = call_tells
