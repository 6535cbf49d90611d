use Rattle.lifecycle_core.proofs.answers.UnbrokenNamed.{none_left_out}
use Rattle.lifecycle_core.proofs.laws.unbroken_runs_leave_none_out.Goals as goal

pub returns : goal.returns
returns c = none_left_out
