use Rattle.std.proofs.Common.{◌+◌, ◌<◌, ◌∷◌, [], List, length, ap, sym, subst, refl, arith, length-append}
use Rattle.std.proofs.lemmas.Iterator.Adapters.{YieldsList-from_vec}
use Rattle.std.proofs.lemmas.Iterator.Consumers.{YieldsList-end, YieldsList-turn}
use Rattle.script_running.specs.Gathering.{IsToldBy, in_them, parts_at}
use Rattle.script_running.specs.Outcomes.{Part}
use Rattle.script_running.proofs.Taking.{found}
use Rattle.script_running.proofs.Telling.{told_all, told_next, told_none}
use Rattle.script_running.proofs.gathering.tell.Goals as goal

pub loop-own-init : goal.loop-own-init
loop-own-init g c = record {
  place = refl;
  told = told_none g.P.Report.tells c.args.phase.now.script.now (parts_at c.args.lists.items) c.args.phase.now.tasks.now c.args.report.now;
}

pub loop-own-preserved : goal.loop-own-preserved
loop-own-preserved g c =
    let i = c.loop-own.invariant in
    let own = c.in-Some.own in
    let road = YieldsList-from_vec c.args.lists.items c.into_iter-own-iterator.ensures.into_iter_gives.0 (omega (arith, c.into_iter-own-iterator.ensures.into_iter_gives.1, c.args.lists.ok)) in
    let turn = YieldsList-turn road c.loop-own.yielded c.loop-own.own-iterator c.loop-own.yielded_by c.next.result c.next.new.self own c.in-Some.is c.next.ensures.steps in
    let below : c.loop-own.place < length c.args.phase.now.tasks.now = omega (arith, turn.0, i.place, c.requires.many) in
    let here = ap in_them (found c.args.lists.items (length c.loop-own.yielded) c.loop-own.place own i.place turn.0 turn.1) in
    let task = c.index-tasks-place.result in
    record {
      place = omega (arith, i.place, length-append c.loop-own.yielded (own ∷ []));
      told = told_next g.P.Report.tells c.args.phase.now.script.now (parts_at c.args.lists.items) c.args.phase.now.tasks.now c.args.report.now c.loop-own.place task c.loop-own.report c.add.new.self
          below c.index-tasks-place.is i.told c.in_ok-outcome.outcome (subst (λ (l : List Part). IsToldBy task.work l c.in_ok-outcome.outcome) (sym here) (c.in_ok-outcome.ensures.whole task.work)) (λ before outcomes told. c.in_ok-add.ensures before outcomes told);
    }

pub loop-own-preserved-in_ok-add : goal.loop-own-preserved-in_ok-add
loop-own-preserved-in_ok-add g c =
    let i = c.loop-own.invariant in
    let own = c.in-Some.own in
    let road = YieldsList-from_vec c.args.lists.items c.into_iter-own-iterator.ensures.into_iter_gives.0 (omega (arith, c.into_iter-own-iterator.ensures.into_iter_gives.1, c.args.lists.ok)) in
    let turn = YieldsList-turn road c.loop-own.yielded c.loop-own.own-iterator c.loop-own.yielded_by c.next.result c.next.new.self own c.in-Some.is c.next.ensures.steps in
    let below : c.loop-own.place < length c.args.phase.now.tasks.now = omega (arith, turn.0, i.place, c.requires.many) in
    let here = ap in_them (found c.args.lists.items (length c.loop-own.yielded) c.loop-own.place own i.place turn.0 turn.1) in
    let task = c.index-tasks-place.result in
    record {
      place = omega (arith, i.place, length-append c.loop-own.yielded (own ∷ []));
      told = told_next g.P.Report.tells c.args.phase.now.script.now (parts_at c.args.lists.items) c.args.phase.now.tasks.now c.args.report.now c.loop-own.place task c.loop-own.report c.add.new.self
          below c.index-tasks-place.is i.told c.in_ok-outcome.outcome (subst (λ (l : List Part). IsToldBy task.work l c.in_ok-outcome.outcome) (sym here) (c.in_ok-outcome.ensures.whole task.work)) (λ before outcomes told. c.in_ok-add.ensures before outcomes told);
    }

pub loop-own-preserved-in_ok-add-2 : goal.loop-own-preserved-in_ok-add-2
loop-own-preserved-in_ok-add-2 g c =
    let i = c.loop-own.invariant in
    let own = c.in-Some.own in
    let road = YieldsList-from_vec c.args.lists.items c.into_iter-own-iterator.ensures.into_iter_gives.0 (omega (arith, c.into_iter-own-iterator.ensures.into_iter_gives.1, c.args.lists.ok)) in
    let turn = YieldsList-turn road c.loop-own.yielded c.loop-own.own-iterator c.loop-own.yielded_by c.next.result c.next.new.self own c.in-Some.is c.next.ensures.steps in
    let below : c.loop-own.place < length c.args.phase.now.tasks.now = omega (arith, turn.0, i.place, c.requires.many) in
    let here = ap in_them (found c.args.lists.items (length c.loop-own.yielded) c.loop-own.place own i.place turn.0 turn.1) in
    let task = c.index-tasks-place.result in
    record {
      place = omega (arith, i.place, length-append c.loop-own.yielded (own ∷ []));
      told = told_next g.P.Report.tells c.args.phase.now.script.now (parts_at c.args.lists.items) c.args.phase.now.tasks.now c.args.report.now c.loop-own.place task c.loop-own.report c.add.new.self
          below c.index-tasks-place.is i.told c.in_ok-outcome.outcome (subst (λ (l : List Part). IsToldBy task.work l c.in_ok-outcome.outcome) (sym here) (c.in_ok-outcome.ensures.whole task.work)) (λ before outcomes told. c.in_ok-add.ensures before outcomes told);
    }

pub returns : goal.returns
returns g c =
    let i = c.loop-own.invariant in
    let road = YieldsList-from_vec c.args.lists.items c.into_iter-own-iterator.ensures.into_iter_gives.0 (omega (arith, c.into_iter-own-iterator.ensures.into_iter_gives.1, c.args.lists.ok)) in
    let end = YieldsList-end road c.loop-own.yielded c.loop-own.own-iterator c.loop-own.yielded_by c.next.result c.next.new.self c.in-None.is c.next.ensures.steps in
    told_all g.P.Report.tells c.args.phase.now.script.now (parts_at c.args.lists.items) c.args.phase.now.tasks.now c.args.report.now c.loop-own.place c.loop-own.report (omega (arith, i.place, end.1, c.requires.many)) i.told
