use Rattle.std.proofs.Common.{false, ◌+◌, ◌<◌, ◌∷◌, [], get_or, length, length-append, refl, ap, ◌∙◌, arith}
use Rattle.std.proofs.lemmas.List.{take_all}
use Rattle.script_running.specs.Lending.{setting_in}
use Rattle.script_running.specs.Tasks.{is_full_came}
use Rattle.world_core.proofs.Turning.{more_turned, none_turned}
use Rattle.script_running.proofs.Leaving.{broken_left, done_left, idle_left}
use Rattle.script_running.proofs.WorkerSteps.{all_worked, none_done, none_worked, step_broken, step_worked}
use Rattle.script_running.proofs.worker.do_tasks.Goals as goal
use Rattle.base.proofs.Lists.{get_or-any}

pub returns-in_default-clause-worked : goal.returns-in_default-clause-worked
returns-in_default-clause-worked g c = λ who held by sees.
    none_done (setting_in c.args.means.now) c.args.tasks.now who c.args.places.now held (g.H.Hand.told c.args.hand.now).seat (g.H.Hand.told c.args.hand.now).entries c.wanting.result
    c.requires.lawful c.requires.tasks c.requires.places c.wanting.ensures.0 c.wanting.ensures.1

pub loop-number-init : goal.loop-number-init
loop-number-init g c = record {
  worked = λ who held by sees. none_worked (setting_in c.args.means.now) c.args.tasks.now who held (g.H.Hand.told c.args.hand.now).seat (g.H.Hand.told c.args.hand.now).entries c.args.sight [] c.in-Ok.parts.items refl c.in-Ok.ensures.items sees;
  turned = none_turned g.H.Hand.told g.H.Hand.keeps g.met.H.Hand.keeps_none _ false;
  count = ap length c.in-Ok.ensures.items;
  room = omega (arith, c.in-Ok.ensures.capacity);
}

pub returns-in-Err-clause-worked : goal.returns-in-Err-clause-worked
returns-in-Err-clause-worked g c = λ who held by sees.
    let below : c.loop-number.number < length c.args.places.now = omega (arith, c.loop-number-test.true) in
    step_broken (setting_in c.args.means.now) c.args.tasks.now who c.args.places.now held (g.H.Hand.told c.args.hand.now).seat (g.H.Hand.told c.loop-number.hand).seat (g.H.Hand.told c.args.hand.now).entries (g.H.Hand.told c.loop-number.hand).entries (g.H.Hand.told c.run_task.new.hand).entries
    c.loop-number.sight c.run_task.new.sight c.loop-number.parts.items c.loop-number.number _ c.index-tasks-places.result below (get_or-any c.args.places.now c.loop-number.number 0 _ below) c.requires.places c.index-tasks-places.is c.loop-number.invariant.turned.same_seat
    (c.loop-number.invariant.worked who held by sees) c.in-Err.broken c.run_task.result _ c.requires.lawful c.requires.tasks c.in-Err.is refl refl (λ h s. c.run_task.ensures.done who (get_or c.args.places.now c.loop-number.number 0) h by s)

pub loop-number-preserved : goal.loop-number-preserved
loop-number-preserved g c =
    let below : c.loop-number.number < length c.args.places.now = omega (arith, c.loop-number-test.true) in
    record {
      worked = λ who held by sees.
          step_worked (setting_in c.args.means.now) c.args.tasks.now who c.args.places.now held (g.H.Hand.told c.args.hand.now).seat (g.H.Hand.told c.loop-number.hand).seat (g.H.Hand.told c.args.hand.now).entries (g.H.Hand.told c.loop-number.hand).entries (g.H.Hand.told c.run_task.new.hand).entries
          c.loop-number.sight c.run_task.new.sight c.loop-number.parts.items c.loop-number.number _ c.index-tasks-places.result below (get_or-any c.args.places.now c.loop-number.number 0 _ below) c.requires.places c.index-tasks-places.is c.loop-number.invariant.turned.same_seat
          (c.loop-number.invariant.worked who held by sees) c.push_reserved.new.self.items c.in-Ok-run_task.part c.run_task.result c.in-Ok-run_task.is c.push_reserved.ensures.items (λ h s. c.run_task.ensures.done who (get_or c.args.places.now c.loop-number.number 0) h by s);
      turned = more_turned g.H.Hand.told g.H.Hand.keeps g.met.H.Hand.keeps_more _ _ _ false false c.loop-number.invariant.turned
          (done_left g.H.Hand.told g.H.Hand.keeps _ _ c.run_task.result c.in-Ok-run_task.part c.in-Ok-run_task.is c.run_task.ensures.hand);
      count = ap length c.push_reserved.ensures.items ∙ length-append c.loop-number.parts.items (c.in-Ok-run_task.part ∷ []) ∙ ap (λ n. n + 1) c.loop-number.invariant.count;
      room = (let a = c.loop-number.invariant.room in let b = c.push_reserved.ensures.capacity in omega arith);
    }

pub returns-clause-worked : goal.returns-clause-worked
returns-clause-worked g c = λ who held by sees.
    all_worked (setting_in c.args.means.now) c.args.tasks.now who _ c.args.places.now held (g.H.Hand.told c.args.hand.now).seat (g.H.Hand.told c.args.hand.now).entries (g.H.Hand.told c.loop-number.hand).entries c.loop-number.sight c.loop-number.parts.items _
    (take_all c.loop-number.number c.args.places.now (omega (arith, c.loop-number-test.false))) refl refl refl (c.loop-number.invariant.worked who held by sees)

pub returns-in_default-clause-hand : goal.returns-in_default-clause-hand
returns-in_default-clause-hand g c = idle_left g.H.Hand.told g.H.Hand.keeps g.met.H.Hand.keeps_none _ c.wanting.result.came (ap is_full_came c.wanting.ensures.1)

pub returns-in-Err-clause-hand : goal.returns-in-Err-clause-hand
returns-in-Err-clause-hand g c = broken_left g.H.Hand.told g.H.Hand.keeps g.met.H.Hand.keeps_more _ _ _ c.run_task.result c.in-Err.broken c.in-Err.is c.loop-number.invariant.turned c.run_task.ensures.hand

pub returns-clause-hand : goal.returns-clause-hand
returns-clause-hand g c = c.loop-number.invariant.turned
