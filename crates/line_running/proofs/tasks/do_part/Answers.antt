use Rattle.std.proofs.Common.{get_or, sym, refl, subst}
use Rattle.std.proofs.lemmas.Option.{slice_get-get_or}
use Rattle.script_workers.specs.declared.hand.Hand.TheVariants as hands
use Rattle.report_lines.specs.lifecycle_core.specs.Holdings.{nothing_held}
use Rattle.report_lines.specs.lifecycle_core.specs.InLine.{who_does}
use Rattle.report_lines.specs.script_running.specs.Lending.{setting_in}
use Rattle.report_lines.specs.script_running.specs.Sights.{Sees}
use Rattle.report_lines.specs.script_running.specs.Tasks.{is_full_came, is_short_came}
use Rattle.line_running.proofs.Steps.{gateway_inside, gateway_step, alone_step}
use Rattle.line_running.proofs.Turns.{from_seat}
use Rattle.line_running.proofs.tasks.do_part.Goals as goal

pub returns-in-Alone-clause-step : goal.returns-in-Alone-clause-step
returns-in-Alone-clause-step g c = λ seat place views same shows.
    alone_step (setting_in c.args.means.now) seat c.args.hand.now.seat place c.in-Alone.field-0 c.args.task.now c.args.who views c.args.sights.now c.args.hand.now.world.journal c.run_task-came.new.hand.world.journal c.run_task-came.new.sight c.run_task-came.result
    c.in-Alone.is same (c.run_task-came.ensures.done (who_does seat (hands.Alone c.in-Alone.field-0)) place nothing_held refl (subst (Sees nothing_held) (sym c.new-unseen.ensures) (record { view_is = refl; cache_is = refl }))) shows

pub returns-in-Gateway-clause-step : goal.returns-in-Gateway-clause-step
returns-in-Gateway-clause-step g c = λ seat place views same shows.
    gateway_step (setting_in c.args.means.now) seat c.args.hand.now.seat place c.args.task.now c.args.who views c.args.sights.now c.args.hand.now.world.journal c.run_task.new.hand.world.journal c.run_task.result
    c.in-Gateway.number (get_or c.args.sights.now c.in-Gateway.number c.index-sights-number.result) _ c.in-Gateway.is same
    (slice_get-get_or c.args.sights.now c.in-Gateway.number c.index-sights-number.result (gateway_inside c.args.who c.in-Gateway.number c.args.sights.now c.in-Gateway.is c.requires.within))
    (λ held sees. c.run_task.ensures.done (who_does seat (hands.Gateway c.in-Gateway.number)) place held refl sees) shows

pub returns-in-Alone-clause-hand : goal.returns-in-Alone-clause-hand
returns-in-Alone-clause-hand g c = from_seat g.B.Bucket.told c.args.hand.now c.run_task-came.new.hand (is_full_came c.run_task-came.result) (is_short_came c.run_task-came.result) c.run_task-came.ensures.hand

pub returns-in-Gateway-clause-hand : goal.returns-in-Gateway-clause-hand
returns-in-Gateway-clause-hand g c = from_seat g.B.Bucket.told c.args.hand.now c.run_task.new.hand (is_full_came c.run_task.result) (is_short_came c.run_task.result) c.run_task.ensures.hand
