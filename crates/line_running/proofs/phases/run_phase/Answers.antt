use Rattle.std.proofs.Common.{◌++◌, List, length, take, drop, refl, ap, sym, ◌∙◌, subst, arith}
use Rattle.report_lines.specs.script_running.specs.Beside.{AreSeen}
use Rattle.report_lines.specs.script_running.specs.Shelves.{setting_by}
use Rattle.report_lines.specs.script_running.specs.declared.sight.Sight.{Sight}
use Rattle.line_running.specs.Progress.{PhaseStep}
use Rattle.line_running.proofs.PhaseLists.{broken_from, broken_step, done_from, phase_at, seats_next, short_before, taken_step, unbegun_step}
use Rattle.line_running.proofs.Turns.{By, broke, not_full, result_is, slice_back, still, then_more}
use Rattle.line_running.proofs.phases.run_phase.Goals as goal

pub returns-in_default-clause-step : goal.returns-in_default-clause-step
returns-in_default-clause-step g c = short_before g.R.Report.tells (setting_by c.args.script.now c.args.means.now.shelf) c.args.place c.args.progress.now.gateways.items c.args.hand.now.world.journal _ c.requires.reached

pub returns-in_err-begin_phase-clause-step : goal.returns-in_err-begin_phase-clause-step
returns-in_err-begin_phase-clause-step g c =
    subst (λ r. PhaseStep g.R.Report.tells (setting_by c.args.script.now c.args.means.now.shelf) c.args.place c.args.progress.now.gateways.items c.begin_phase.new.hand.world.journal c.args.progress.now.report r)
    (sym (result_is c.from_residual.result c.in_err-begin_phase.field-0.0 c.from_residual.ensures.1))
    (unbegun_step g.R.Report.tells (setting_by c.args.script.now c.args.means.now.shelf) c.args.place c.index-members-place.result c.args.progress.now.gateways.items c.args.progress.now.gateways.items c.args.hand.now.world.journal c.begin_phase.new.hand.world.journal _ c.in_err-begin_phase.field-0.0
    (phase_at c.args.script.now.phases c.members.result.now c.args.place c.index-members-place.result c.members.ensures c.requires.within c.index-members-place.is) c.in_err-begin_phase.ensures.unbegun c.requires.reached)

pub returns-in_err-lines-clause-step : goal.returns-in_err-lines-clause-step
returns-in_err-lines-clause-step g c =
    let begun = c.in_ok-begin_phase.ensures.begun in
    let at = (phase_at c.args.script.now.phases c.members.result.now c.args.place c.index-members-place.result c.members.ensures c.requires.within c.index-members-place.is) in
    let tasks = broken_from (setting_by c.args.script.now c.args.means.now.shelf) c.args.place c.index-members-place.result c.args.progress.now.gateways.items c.args.hand.now.world.journal c.begin_phase.new.hand.world.journal c.run_tasks.new.hand.world.journal c.in_err-lines.field-0.0
    c.in-Ok.seats.workers c.members-2.result.now begun.0 c.in-Ok.ensures c.members-2.ensures begun.2
    (λ v shows. c.in_err-lines.ensures.came v (subst (λ (l : List Sight). AreSeen v l) (sym c.as_mut_slice-sights.ensures.value) shows)) in
    subst (λ r. PhaseStep g.R.Report.tells (setting_by c.args.script.now c.args.means.now.shelf) c.args.place (take c.args.progress.now.gateways.len (c.run_tasks.new.sights ++ drop (length c.run_tasks.new.sights) c.args.progress.now.gateways.items)) c.run_tasks.new.hand.world.journal c.args.progress.now.report r)
    (sym (result_is c.from_residual-in_err-lines.result c.in_err-lines.field-0.0 c.from_residual-in_err-lines.ensures.1))
    (broken_step g.R.Report.tells (setting_by c.args.script.now c.args.means.now.shelf) c.args.place c.index-members-place.result c.args.progress.now.gateways.items (take c.args.progress.now.gateways.len (c.run_tasks.new.sights ++ drop (length c.run_tasks.new.sights) c.args.progress.now.gateways.items)) c.args.hand.now.world.journal c.run_tasks.new.hand.world.journal c.args.progress.now.report c.args.progress.now.report
    c.in_err-lines.field-0.0 begun.0 at refl begun.1 c.requires.reached tasks)

pub returns-in_err-lines-clause-hand : goal.returns-in_err-lines-clause-hand
returns-in_err-lines-clause-hand g c =
    subst (λ r. By g.B.Bucket.told c.args.hand.now c.run_tasks.new.hand r) (sym (result_is c.from_residual-in_err-lines.result c.in_err-lines.field-0.0 c.from_residual-in_err-lines.ensures.1))
    (broke g.B.Bucket.told {X = g.row.R.Denot} (Unit {0}) c.args.hand.now c.begin_phase.new.hand c.run_tasks.new.hand _ c.in_err-lines.field-0.0 refl c.in_ok-begin_phase.ensures.hand c.in_err-lines.ensures.hand)

pub returns-clause-step : goal.returns-clause-step
returns-clause-step g c =
    let begun = c.in_ok-begin_phase.ensures.begun in
    let at = (phase_at c.args.script.now.phases c.members.result.now c.args.place c.index-members-place.result c.members.ensures c.requires.within c.index-members-place.is) in
    let same = slice_back c.run_tasks.new.sights c.args.progress.now.gateways.items c.args.progress.now.gateways.len (c.run_tasks.ensures.ready ∙ ap (λ (l : List Sight). length l) c.as_mut_slice-sights.ensures.value)
    (let ok = c.args.progress.now.gateways.ok in omega (arith, ok)) in
    let tasks = done_from g.R.Report.tells (setting_by c.args.script.now c.args.means.now.shelf) c.args.place c.index-members-place.result c.args.progress.now.gateways.items c.run_tasks.new.sights c.args.hand.now.world.journal c.begin_phase.new.hand.world.journal c.run_tasks.new.hand.world.journal
    c.in_ok-lines.lines c.in-Ok.seats.workers c.members-2.result.now begun.0 c.in-Ok.ensures c.members-2.ensures begun.2
    (λ v shows. c.in_ok-lines.ensures.came v (subst (λ (l : List Sight). AreSeen v l) (sym c.as_mut_slice-sights.ensures.value) shows)) in
    subst (λ (l : List Sight). PhaseStep g.R.Report.tells (setting_by c.args.script.now c.args.means.now.shelf) c.args.place l c.run_tasks.new.hand.world.journal c.join.new.self c.join.result) (sym same)
    (taken_step g.R.Report.tells (setting_by c.args.script.now c.args.means.now.shelf) c.args.place c.index-members-place.result c.args.progress.now.gateways.items c.run_tasks.new.sights c.args.hand.now.world.journal c.run_tasks.new.hand.world.journal
    c.args.progress.now.report c.args.progress.now.report c.in_ok-lines.lines c.join.new.self c.join.result begun.0 c.join.ensures.refusal at begun.1 c.requires.reached tasks
    refl (c.join.ensures.joined c.args.script.now) (c.join.ensures.kept c.args.script.now))

pub returns-clause-hand : goal.returns-clause-hand
returns-clause-hand g c =
    still g.B.Bucket.told c.args.hand.now c.run_tasks.new.hand c.join.result (not_full c.join.result c.join.ensures.refusal)
    (then_more g.B.Bucket.told c.args.hand.now c.begin_phase.new.hand c.run_tasks.new.hand _ _ c.in_ok-begin_phase.ensures.hand c.in_ok-lines.ensures.hand)

pub returns-clause-workers : goal.returns-clause-workers
returns-clause-workers g c = λ done.
    seats_next (setting_by c.args.script.now c.args.means.now.shelf) c.args.place c.index-members-place.result c.in-Ok.seats.workers c.args.progress.now.workers c.count.result _ (phase_at c.args.script.now.phases c.members.result.now c.args.place c.index-members-place.result c.members.ensures c.requires.within c.index-members-place.is) c.in-Ok.ensures c.requires.workers c.count.ensures c.saturating_add-progress.ensures
