use Rattle.replay_cli.specs.Ways.{in_line}
use Rattle.replay_cli.proofs.Calls.{ran}
use Rattle.replay_cli.proofs.tool.read_and_run.Goals as goal

pub returns-in-Ok : goal.returns-in-Ok
returns-in-Ok g c =
    ran _ _ _ in_line c.in-Ok.field-0 c.members.result.now c.run_in_line-verdict.result.1.world c.run_in_line-verdict.result.1.note c.run_in_line-verdict.result.0 c.of_run.result
    c.members.ensures c.in-Ok.ensures c.run_in_line-verdict.ensures c.of_run.ensures

pub returns-in-Err : goal.returns-in-Err
returns-in-Err g c = c.in-Err.ensures in_line
