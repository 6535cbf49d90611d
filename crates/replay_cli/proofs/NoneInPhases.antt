-- A run whose workers are beside each other, of which nothing was done yet.
use Rattle.std.proofs.Common.{[]}
use Rattle.call_verdicts.specs.lifecycle_core.specs.Holdings.{none_held}
use Rattle.call_verdicts.specs.lifecycle_core.specs.Phases.{by_workers}
use Rattle.call_verdicts.specs.lifecycle_core.specs.Setting.{Setting}
use Rattle.call_verdicts.specs.lifecycle_core.proofs.phases.FirstPhases.{no_phase, none_in_line}
use Rattle.replay_cli.specs.InPhases.{IsInPhases}

pub none_in_phases : (setting : Setting) → IsInPhases setting []
none_in_phases setting = ([], record { kept = ((none_in_line setting).1).kept; phases = no_phase (by_workers setting) 0 none_held setting.script.phases }, tt)
