use Rattle.replay_cli.proofs.Served.{served}
use Rattle.replay_cli.proofs.replay.run_replay.Goals as goal

pub returns : goal.returns
returns g c = served _ _ _ c.come_to.result _ c.into_run.ensures.0 c.into_run.result c.come_to.ensures c.into_run.ensures.1 c.into_run.ensures.2
