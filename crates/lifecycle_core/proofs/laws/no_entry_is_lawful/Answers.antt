use Rattle.lifecycle_core.proofs.phases.FirstPhases.{none_lawful}
use Rattle.lifecycle_core.proofs.laws.no_entry_is_lawful.Goals as goal

pub returns : goal.returns
returns c = none_lawful
