use Rattle.std.proofs.Common.{◌++◌, ◌∷◌, [], ◌+◌, refl, sym, ◌∙◌, subst, arith, List}
use Rattle.std.specs.Prelude.{MatchResult, Ok, Err}
use Rattle.report_lines.specs.lifecycle_core.specs.InLine.{seat_of}
use Rattle.report_lines.specs.script_running.specs.Lending.{setting_in}
use Rattle.report_lines.specs.script_running.specs.Shelves.{setting_by}
use Rattle.report_lines.specs.script_running.specs.Outcomes.{Outcome}
use Rattle.report_lines.specs.script_running.specs.declared.came.Broken.TheVariants as broken
use Rattle.script_workers.specs.declared.task.Task.{Task}
use Rattle.line_running.specs.Lines.{line_of}
use Rattle.line_running.specs.Progress.{TaskStep, TasksBroken, TasksDone, line_by}
use Rattle.line_running.proofs.Steps.{one_of}
use Rattle.line_running.proofs.Told.{cut_off, cut_short, done_more, done_none, lent_begin, lent_step, on_ok, take_whole}
use Rattle.line_running.proofs.Turns.{By, broke, idle, result_is, still, then_more}
use Rattle.line_running.proofs.phases.run_tasks.Goals as goal

pub loop-place-init : goal.loop-place-init
loop-place-init g c = record {
  done = λ views shows. done_none g.R.Report.tells (setting_by c.args.phase.now.script.now c.args.phase.now.means.now.shelf) (seat_of c.args.phase.now.seats.workers) c.args.phase.now.tasks.now views c.args.sights.now c.args.hand.now.world.journal c.empty-lines.result shows (c.empty-lines.ensures c.args.phase.now.script.now);
  hand = idle g.B.Bucket.told c.args.hand.now _;
  ready = refl;
}

pub do_task-requires-clause-ready : goal.do_task-requires-clause-ready
do_task-requires-clause-ready g c = c.loop-place.invariant.ready ∙ c.requires.means.ready

pub returns-in_err-outcome-clause-came : goal.returns-in_err-outcome-clause-came
returns-in_err-outcome-clause-came g c = λ views shows.
    subst (λ r. MatchResult r (λ lines. TasksDone (g.R.Report.tells lines) (line_of c.args.phase.now) c.args.phase.now.tasks.now views c.do_task.new.sights c.args.hand.now.world.journal c.do_task.new.hand.world.journal) (λ broken. TasksBroken (line_of c.args.phase.now) c.args.phase.now.tasks.now views c.args.hand.now.world.journal c.do_task.new.hand.world.journal broken))
    (sym (result_is c.from_residual.result c.in_err-outcome.field-0.0 c.from_residual.ensures.1))
    (cut_off g.R.Report.tells (setting_by c.args.phase.now.script.now c.args.phase.now.means.now.shelf) (seat_of c.args.phase.now.seats.workers) c.loop-place.place c.args.phase.now.tasks.now c.index-phase-place.result views c.loop-place.sights c.do_task.new.sights
    c.args.hand.now.world.journal c.loop-place.hand.world.journal c.do_task.new.hand.world.journal c.loop-place.lines c.loop-place-test.true c.index-phase-place.is
    c.in_err-outcome.field-0.0 (lent_begin c.args.phase.now.means.now.script c.args.phase.now.script.now c.args.phase.now.means.now.shelf (c.loop-place.place + 1) c.args.phase.now.tasks.now c.requires.means.lent c.requires.means.lawful c.requires.means.allowed) (c.loop-place.invariant.done views shows)
    (λ v shows. lent_step c.args.phase.now.means.now.script c.args.phase.now.script.now c.args.phase.now.means.now.shelf (seat_of c.args.phase.now.seats.workers) c.loop-place.place c.index-phase-place.result v c.do_task.new.sights c.loop-place.hand.world.journal c.do_task.new.hand.world.journal (Err c.in_err-outcome.field-0.0) c.requires.means.lent (subst (λ (t : Task). TaskStep (line_by (setting_in c.args.phase.now.means.now) c.args.phase.now.seats.workers) (one_of c.loop-place.place t) v c.do_task.new.sights c.loop-place.hand.world.journal c.do_task.new.hand.world.journal (Err c.in_err-outcome.field-0.0)) (sym c.index-phase-place.is) (c.in_err-outcome.ensures.step v shows))))

pub returns-in_err-outcome-clause-hand : goal.returns-in_err-outcome-clause-hand
returns-in_err-outcome-clause-hand g c =
    subst (λ r. By g.B.Bucket.told c.args.hand.now c.do_task.new.hand r) (sym (result_is c.from_residual.result c.in_err-outcome.field-0.0 c.from_residual.ensures.1))
    (broke g.B.Bucket.told {X = Outcome} g.row.R.Denot c.args.hand.now c.loop-place.hand c.do_task.new.hand _ c.in_err-outcome.field-0.0 refl c.loop-place.invariant.hand c.in_err-outcome.ensures.hand)

pub returns-in_default-clause-came : goal.returns-in_default-clause-came
returns-in_default-clause-came g c = λ views shows.
    cut_short g.R.Report.tells (setting_by c.args.phase.now.script.now c.args.phase.now.means.now.shelf) (seat_of c.args.phase.now.seats.workers) c.loop-place.place c.args.phase.now.tasks.now c.index-phase-place.result views c.loop-place.sights c.do_task.new.sights
    c.args.hand.now.world.journal c.loop-place.hand.world.journal c.do_task.new.hand.world.journal c.loop-place.lines c.loop-place-test.true c.index-phase-place.is
    (Ok c.in_ok-outcome.outcome) (lent_begin c.args.phase.now.means.now.script c.args.phase.now.script.now c.args.phase.now.means.now.shelf (c.loop-place.place + 1) c.args.phase.now.tasks.now c.requires.means.lent c.requires.means.lawful c.requires.means.allowed) (c.loop-place.invariant.done views shows)
    (λ v shows. lent_step c.args.phase.now.means.now.script c.args.phase.now.script.now c.args.phase.now.means.now.shelf (seat_of c.args.phase.now.seats.workers) c.loop-place.place c.index-phase-place.result v c.do_task.new.sights c.loop-place.hand.world.journal c.do_task.new.hand.world.journal (Ok c.in_ok-outcome.outcome) c.requires.means.lent (subst (λ (t : Task). TaskStep (line_by (setting_in c.args.phase.now.means.now) c.args.phase.now.seats.workers) (one_of c.loop-place.place t) v c.do_task.new.sights c.loop-place.hand.world.journal c.do_task.new.hand.world.journal (Ok c.in_ok-outcome.outcome)) (sym c.index-phase-place.is) (c.in_ok-outcome.ensures.step v shows)))

pub returns-in_default-clause-hand : goal.returns-in_default-clause-hand
returns-in_default-clause-hand g c =
    still g.B.Bucket.told {X = g.row.R.Denot} c.args.hand.now c.do_task.new.hand (Err broken.NoMemory) refl (then_more g.B.Bucket.told c.args.hand.now c.loop-place.hand c.do_task.new.hand _ _ c.loop-place.invariant.hand c.in_ok-outcome.ensures.hand)

pub loop-place-preserved : goal.loop-place-preserved
loop-place-preserved g c = record {
  done = λ views shows. done_more g.R.Report.tells (setting_by c.args.phase.now.script.now c.args.phase.now.means.now.shelf) (seat_of c.args.phase.now.seats.workers) c.loop-place.place c.args.phase.now.tasks.now c.index-phase-place.result views c.loop-place.sights c.do_task.new.sights
      c.args.hand.now.world.journal c.loop-place.hand.world.journal c.do_task.new.hand.world.journal c.loop-place.lines c.loop-place-test.true c.index-phase-place.is
      c.in_ok-outcome.outcome c.add-told.new.self (c.loop-place.invariant.done views shows)
      (λ v shows. lent_step c.args.phase.now.means.now.script c.args.phase.now.script.now c.args.phase.now.means.now.shelf (seat_of c.args.phase.now.seats.workers) c.loop-place.place c.index-phase-place.result v c.do_task.new.sights c.loop-place.hand.world.journal c.do_task.new.hand.world.journal (Ok c.in_ok-outcome.outcome) c.requires.means.lent (subst (λ (t : Task). TaskStep (line_by (setting_in c.args.phase.now.means.now) c.args.phase.now.seats.workers) (one_of c.loop-place.place t) v c.do_task.new.sights c.loop-place.hand.world.journal c.do_task.new.hand.world.journal (Ok c.in_ok-outcome.outcome)) (sym c.index-phase-place.is) (c.in_ok-outcome.ensures.step v shows)))
      (λ ts os are. subst (λ (t : Task). g.R.Report.tells c.add-told.new.self c.args.phase.now.script.now (ts ++ t ∷ []) (os ++ c.in_ok-outcome.outcome ∷ [])) (sym c.index-phase-place.is) (on_ok _ c.add-told.result tt c.in-Ok.is (c.add-told.ensures ts os are)));
  hand = then_more g.B.Bucket.told c.args.hand.now c.loop-place.hand c.do_task.new.hand _ _ c.loop-place.invariant.hand c.in_ok-outcome.ensures.hand;
  ready = c.do_task.ensures.ready ∙ c.loop-place.invariant.ready;
}

pub returns-clause-came : goal.returns-clause-came
returns-clause-came g c = λ views shows.
    subst (λ (ts : List Task). TasksDone (g.R.Report.tells c.loop-place.lines) (line_of c.args.phase.now) ts views c.loop-place.sights c.args.hand.now.world.journal c.loop-place.hand.world.journal)
    (take_whole c.args.phase.now.tasks.now c.loop-place.place (omega (arith, c.loop-place-test.false))) (c.loop-place.invariant.done views shows)

pub returns-clause-hand : goal.returns-clause-hand
returns-clause-hand g c = c.loop-place.invariant.hand
