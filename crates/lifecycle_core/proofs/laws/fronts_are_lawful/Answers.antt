use Rattle.lifecycle_core.proofs.phases.Fronts.{front_is_lawful}
use Rattle.lifecycle_core.proofs.laws.fronts_are_lawful.Goals as goal

pub returns : goal.returns
returns c = front_is_lawful
