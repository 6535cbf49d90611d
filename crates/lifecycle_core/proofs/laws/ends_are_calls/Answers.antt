use Rattle.lifecycle_core.proofs.answers.EndsAreCalls.{ends_are_calls}
use Rattle.lifecycle_core.proofs.laws.ends_are_calls.Goals as goal

pub returns : goal.returns
returns c = ends_are_calls
