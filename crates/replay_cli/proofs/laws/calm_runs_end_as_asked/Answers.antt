use Rattle.replay_cli.proofs.CalmRuns.{calm_run, well_run}
use Rattle.replay_cli.proofs.laws.calm_runs_end_as_asked.Goals as goal

pub returns : goal.returns
returns c = record { well = well_run; asked = calm_run }
