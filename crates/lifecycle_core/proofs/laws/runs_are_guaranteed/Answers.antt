use Rattle.lifecycle_core.proofs.Assembling.{all_guaranteed}
use Rattle.lifecycle_core.proofs.laws.runs_are_guaranteed.Goals as goal

pub returns : goal.returns
returns c = all_guaranteed
