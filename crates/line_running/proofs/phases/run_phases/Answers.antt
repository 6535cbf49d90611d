use Rattle.std.proofs.Common.{ℕ, refl, sym, subst, arith}
use Rattle.report_lines.specs.script_running.specs.Shelves.{setting_by}
use Rattle.line_running.specs.Progress.{Reached}
use Rattle.line_running.proofs.Turns.{By, broke, idle, result_is, then_more}
use Rattle.line_running.proofs.phases.run_phases.Goals as goal

pub loop-place-init : goal.loop-place-init
loop-place-init g c = record { reached = c.requires.reached; hand = idle g.B.Bucket.told c.args.hand.now _; workers = c.requires.workers; ready = c.requires.ready }

pub loop-place-preserved : goal.loop-place-preserved
loop-place-preserved g c = record {
  reached = c.in_ok-run_phase.ensures.step;
  hand = then_more g.B.Bucket.told c.args.hand.now c.loop-place.hand c.run_phase.new.hand _ _ c.loop-place.invariant.hand c.in_ok-run_phase.ensures.hand;
  workers = c.in_ok-run_phase.ensures.workers refl;
  ready = c.run_phase.ensures.ready;
}

pub returns-in_err-run_phase-clause-hand : goal.returns-in_err-run_phase-clause-hand
returns-in_err-run_phase-clause-hand g c =
    subst (λ r. By g.B.Bucket.told c.args.hand.now c.run_phase.new.hand r) (sym (result_is c.from_residual.result c.in_err-run_phase.field-0.0 c.from_residual.ensures.1))
    (broke g.B.Bucket.told {X = Unit {0}} (Unit {0}) c.args.hand.now c.loop-place.hand c.run_phase.new.hand _ c.in_err-run_phase.field-0.0 refl c.loop-place.invariant.hand c.in_err-run_phase.ensures.hand)

pub returns-clause-came : goal.returns-clause-came
returns-clause-came g c =
    subst (λ (n : ℕ). Reached g.R.Report.tells (setting_by c.args.script.now c.args.means.now.shelf) n c.loop-place.progress.gateways.items c.loop-place.hand.world.journal c.loop-place.progress.report)
    (omega (arith, c.loop-place-test.false, c.loop-place.auto.place-end, c.len-place-end.ensures)) c.loop-place.invariant.reached

pub returns-clause-hand : goal.returns-clause-hand
returns-clause-hand g c = c.loop-place.invariant.hand
