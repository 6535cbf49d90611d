use Rattle.lifecycle_core.proofs.Assembling.{unbroken_complete}
use Rattle.lifecycle_core.proofs.laws.unbroken_runs_end_well.Goals as goal

pub returns : goal.returns
returns c = λ setting journal ends lawful run turns of_bytes unbroken none. unbroken_complete setting journal ends lawful run of_bytes turns unbroken none
