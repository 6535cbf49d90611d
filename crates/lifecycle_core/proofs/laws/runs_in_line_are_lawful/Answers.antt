use Rattle.script_workers.specs.Hands.{gateway_count}
use Rattle.lifecycle_core.proofs.phases.RunsInLine.{ends_by_workers, run_of}
use Rattle.lifecycle_core.proofs.laws.runs_in_line_are_lawful.Goals as goal

pub returns : goal.returns
returns c = λ setting journal ends lawful run. (ends_by_workers (gateway_count setting.script.gateways) setting.script.phases ends, run_of setting journal ends lawful run)
