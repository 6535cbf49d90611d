use Rattle.std.proofs.Common.{sym, ap}
use Rattle.std.specs.Prelude.{is_some}
use Rattle.line_running.proofs.Steps.{count_all, count_one}
use Rattle.line_running.proofs.tasks.hand_count.Goals as goal

pub returns-in-Some : goal.returns-in-Some
returns-in-Some c = λ place. count_all c.args.gateways place c.args.work.now (sym (ap is_some c.in-Some.ensures))

pub returns-in-None : goal.returns-in-None
returns-in-None c = λ place. count_one c.args.gateways place c.args.work.now (sym (ap is_some c.in-None.ensures))
