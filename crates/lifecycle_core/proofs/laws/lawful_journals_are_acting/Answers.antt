use Rattle.lifecycle_core.proofs.phases.ActingRuns.{runs_act}
use Rattle.lifecycle_core.proofs.laws.lawful_journals_are_acting.Goals as goal

pub returns : goal.returns
returns c = λ setting journal lawful run. runs_act setting journal run.0 lawful run.1
