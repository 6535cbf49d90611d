use Rattle.replay_cli.specs.Ways.{beside}
use Rattle.replay_cli.proofs.Calls.{ran}
use Rattle.replay_cli.proofs.replay.read_and_run.Goals as goal

pub returns-in-Ok : goal.returns-in-Ok
returns-in-Ok g c =
    ran _ _ _ beside c.in-Ok.field-0 c.members-read.result.now c.run_with_threads-verdict.result.1.world c.run_with_threads-verdict.result.1.note c.run_with_threads-verdict.result.0 c.of_run.result
    c.members-read.ensures c.in-Ok.ensures c.run_with_threads-verdict.ensures c.of_run.ensures

pub returns-in-Err : goal.returns-in-Err
returns-in-Err g c = c.in-Err.ensures beside
