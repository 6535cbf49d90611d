use Rattle.std.proofs.Common.{inr}
use Rattle.run_messages.proofs.of_calls.script_of.Goals as goal

pub returns-in-Err : goal.returns-in-Err
returns-in-Err c = λ told. inr (c.in-Err.refusal, c.in-Err.ensures.only)
