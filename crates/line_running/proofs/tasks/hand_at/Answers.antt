use Rattle.std.proofs.Common.{sym, ap, ◌∙◌}
use Rattle.std.specs.Prelude.{Some, is_some}
use Rattle.line_running.proofs.Steps.{hand_all, hand_one}
use Rattle.line_running.proofs.tasks.hand_at.Goals as goal

pub returns-in-Some : goal.returns-in-Some
returns-in-Some c = λ gateways. hand_all gateways c.args.place c.args.number c.args.work.now (sym (ap is_some c.in-Some.ensures))

pub returns-in-None : goal.returns-in-None
returns-in-None c = λ gateways less. hand_one gateways c.args.place c.args.number c.args.work.now (sym (ap is_some c.in-None.ensures)) less ∙ ap (λ h. Some h) (sym c.own_hand.ensures)
