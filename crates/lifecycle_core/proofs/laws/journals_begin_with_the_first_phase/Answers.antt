use Rattle.lifecycle_core.proofs.phases.FirstPhases.{begins}
use Rattle.lifecycle_core.proofs.laws.journals_begin_with_the_first_phase.Goals as goal

pub returns : goal.returns
returns c = begins
