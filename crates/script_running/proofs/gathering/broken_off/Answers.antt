use Rattle.std.proofs.Common.{◌≡◌, List, take, refl, sym, subst, arith}
use Rattle.std.proofs.lemmas.List.{take_all}
use Rattle.base.proofs.Lists.{take_none, take_place}
use Rattle.std.proofs.lemmas.List.Elements.{All-nil}
use Rattle.std.specs.Prelude.{Ok}
use Rattle.script_running.specs.Gathering.{HaveCome}
use Rattle.script_running.specs.declared.worker.WorkerEnd.{WorkerEnd}
use Rattle.script_running.proofs.Taking.{come_more, found}
use Rattle.script_running.proofs.gathering.broken_off.Goals as goal

pub loop-end-init : goal.loop-end-init
loop-end-init c = subst (λ (l : List WorkerEnd). HaveCome l (Ok tt)) (sym (take_none c.args.ends.now)) (All-nil (λ (end : WorkerEnd). end.came ≡ Ok tt))

pub loop-end-preserved : goal.loop-end-preserved
loop-end-preserved c =
    subst (λ (l : List WorkerEnd). HaveCome l c.worse-came.result) (sym (take_place c.args.ends.now c.loop-end.end-index c.end-item.result (found c.args.ends.now c.loop-end.end-index c.loop-end.end-index c.end-item.result refl c.loop-end-test.true c.end-item.is)))
    (come_more (take c.loop-end.end-index c.args.ends.now) c.end-item.result c.loop-end.came c.worse-came.result c.worse-came.ensures c.loop-end.invariant)

pub returns : goal.returns
returns c = subst (λ (l : List WorkerEnd). HaveCome l c.loop-end.came) (take_all c.loop-end.end-index c.args.ends.now (omega (arith, c.loop-end-test.false))) c.loop-end.invariant
