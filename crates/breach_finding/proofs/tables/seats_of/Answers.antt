use Rattle.std.proofs.Common.{◌≡◌, ◌||◌, ℕ, List, length, ◌∙◌, ap, ap₂, subst, arith}
use Rattle.std.specs.BTreeSet.{contains}
use Rattle.std.specs.Ordering.{nat_cmp}
use Rattle.script_core.specs.Workers.{workers_of}
use Rattle.script_workers.specs.declared.task.Task.{Task}
use Rattle.script_workers.specs.declared.worker.Worker.{Worker}
use Rattle.breach_finding.specs.Tables.{AreAdded, AreCompactors, AreSeatsOf, compacts_among}
use Rattle.breach_finding.proofs.Compactors.{compactors_more, compactors_none}
use Rattle.breach_finding.proofs.SeatCounts.{phase_at, seats_first, seats_next, workers_here}
use Rattle.breach_finding.proofs.SeatTables.{one_phase_more, seats_none}
use Rattle.breach_finding.proofs.tables.seats_of.Goals as goal

pub loop-number-init : goal.loop-number-init
loop-number-init c = record {
  taken = seats_first c.args.script.now;
  gateways = λ lawful. seats_none c.args.script.now c.new-gateways.result c.new-gateways.ensures.empty;
  compactors = compactors_none c.args.script.now c.new-compactors.result c.new-compactors.ensures.empty;
}

pub loop-number-preserved : goal.loop-number-preserved
loop-number-preserved c =
    let here : c.in_ok-workers.workers ≡ workers_of c.args.script.now c.loop-number.number = workers_here c.args.script.now c.loop-number.number c.loop-number.before c.in_ok-workers.workers c.loop-number.invariant.taken c.in_ok-workers.ensures in
    let phase = phase_at c.args.script.now.phases c.loop-number.number (omega (arith, c.loop-number-test.true, c.len-number-end.ensures)) in
    record {
      taken = seats_next c.args.script.now c.loop-number.number phase.0 c.loop-number.before c.len.result c.seats_behind-before.result phase.1 c.loop-number.invariant.taken (c.len.ensures ∙ ap (length {A = Worker}) here) c.seats_behind-before.ensures;
      gateways = λ lawful. one_phase_more c.args.script.now lawful c.loop-number.number c.loop-number.gateways c.add_seats.new.seats (c.loop-number.invariant.gateways lawful)
          (subst (λ (ws : List Worker). AreAdded ws c.loop-number.gateways c.add_seats.new.seats) (c.members.ensures ∙ here) c.in_ok-add_seats.ensures);
      compactors = compactors_more c.args.script.now c.loop-number.number c.loop-number.compactors c.add_compactors.new.compactors c.loop-number.invariant.compactors
          (λ seat. c.in_ok-add_compactors.ensures seat ∙ ap₂ (λ (ts : List Task) (ws : List Worker). contains nat_cmp c.loop-number.compactors seat || compacts_among ts seat ws) c.tasks_at.ensures (c.members-in-loop-number.ensures ∙ here));
    }

pub returns-clause-gateways : goal.returns-clause-gateways
returns-clause-gateways c lawful =
    let end : c.loop-number.number ≡ length c.args.script.now.phases = omega (arith, c.loop-number-test.false, c.loop-number.auto.number-end, c.len-number-end.ensures) in
    subst (λ (n : ℕ). AreSeatsOf c.args.script.now n c.loop-number.gateways) end (c.loop-number.invariant.gateways lawful)

pub returns-clause-compactors : goal.returns-clause-compactors
returns-clause-compactors c =
    let end : c.loop-number.number ≡ length c.args.script.now.phases = omega (arith, c.loop-number-test.false, c.loop-number.auto.number-end, c.len-number-end.ensures) in
    subst (λ (n : ℕ). AreCompactors c.args.script.now n c.loop-number.compactors) end c.loop-number.invariant.compactors
