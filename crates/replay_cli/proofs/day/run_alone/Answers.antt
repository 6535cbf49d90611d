use Rattle.std.proofs.Common.{inr}
use Rattle.replay_cli.proofs.DayRuns.{calm_day, day_noted, short_day, unnoted_day}
use Rattle.replay_cli.proofs.day.run_alone.Goals as goal

pub returns-in_default-clause-came : goal.returns-in_default-clause-came
returns-in_default-clause-came g c = short_day c.args.number c.empty.result c.empty.ensures

pub returns-in_default-clause-noted : goal.returns-in_default-clause-noted
returns-in_default-clause-noted g c = unnoted_day c.empty.result c.empty.ensures

pub run_script-verdict-requires-clause-asked : goal.run_script-verdict-requires-clause-asked
run_script-verdict-requires-clause-asked g c = (c.in-Ok-open.world.bucket, tt, tt)

pub returns-in-Ok-open-clause-came : goal.returns-in-Ok-open-clause-came
returns-in-Ok-open-clause-came g c =
    let unfailed = c.run_script-verdict.ensures.unfailed (c.in-Ok-open.ensures.calm (c.new-bucket.ensures.quiet c.new.ensures)) in
    record {
      honest = c.run_script-verdict.ensures.back.honest;
      bytes = c.run_script-verdict.ensures.back.bytes;
      unfailed = unfailed;
      came = inr (
        c.in-Ok.script,
        c.in-Ok.ensures.spelled,
        c.in-Ok.ensures.lawful,
        c.run_script-verdict.ensures.came,
        calm_day c.in-Ok.script c.run_script-verdict.result.1 c.run_script-verdict.result.0 unfailed c.run_script-verdict.ensures.came,
      );
    }

pub returns-in-Ok-open-clause-noted : goal.returns-in-Ok-open-clause-noted
returns-in-Ok-open-clause-noted g c = day_noted c.run_script-verdict.result.0 c.run_script-verdict.result.1 c.run_script-verdict.result.2 c.run_script-verdict.result.3 c.run_script-verdict.ensures.noted

pub returns-in-Err-clause-came : goal.returns-in-Err-clause-came
returns-in-Err-clause-came g c = short_day c.args.number c.empty-in-Err.result c.empty-in-Err.ensures

pub returns-in-Err-clause-noted : goal.returns-in-Err-clause-noted
returns-in-Err-clause-noted g c = unnoted_day c.empty-in-Err.result c.empty-in-Err.ensures
