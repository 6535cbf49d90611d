use Rattle.lifecycle_core.specs.Holdings.{none_held}
use Rattle.told_journals.proofs.ToldJournals.{finished_told}
use Rattle.told_journals.proofs.laws.finished_runs_are_told.Goals as goal

pub returns : goal.returns
returns c = λ setting journal ends run finished. record { kept = run.kept; phases = finished_told setting setting.script.phases 0 none_held journal ends run.phases finished }
