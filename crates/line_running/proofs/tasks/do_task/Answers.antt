use Rattle.std.proofs.Common.{◌≡◌, ◌∷◌, [], ◌+◌, length, length-append, refl, sym, ◌∙◌, ap, subst, arith, List}
use Rattle.world_core.specs.declared.entry.Entry.{Entry}
use Rattle.line_running.specs.Progress.{PartStep}
use Rattle.script_workers.specs.Hands.{gateway_count, hands_of_task}
use Rattle.report_lines.specs.lifecycle_core.specs.InLine.{seat_of}
use Rattle.report_lines.specs.script_running.specs.Lending.{setting_in}
use Rattle.report_lines.specs.script_running.specs.Outcomes.{Outcome}
use Rattle.report_lines.specs.script_running.proofs.AllParts.{all_parts, few_parts}
use Rattle.line_running.proofs.Steps.{all_done, counted, duties_long, duty_at, duty_of, gathered_is, line, none_begun, none_done, part_broken, part_more, sync_within, task_begins}
use Rattle.line_running.proofs.Turns.{broke, ended, idle, not_full, seated, still, then_more}
use Rattle.line_running.proofs.tasks.do_task.Goals as goal

pub returns-in_default-clause-step : goal.returns-in_default-clause-step
returns-in_default-clause-step g c = λ views shows.
    let m = c.args.phase.now.means.now in
    none_begun (setting_in m) (seat_of c.args.phase.now.seats.workers) c.args.place c.args.task.now views c.args.sights.now c.args.hand.now.world.journal
    (task_begins (setting_in m) c.args.place c.args.task.now c.requires.lawful c.requires.work)

pub returns-in_default-clause-hand : goal.returns-in_default-clause-hand
returns-in_default-clause-hand g c = idle g.B.Bucket.told c.args.hand.now _

pub loop-number-init : goal.loop-number-init
loop-number-init g c = record {
  done = λ views shows. none_done (setting_in c.args.phase.now.means.now) (seat_of c.args.phase.now.seats.workers) c.args.place c.args.task.now views c.args.sights.now c.args.hand.now.world.journal c.in-Ok.parts.items c.in-Ok.ensures.items shows;
  hand = idle g.B.Bucket.told c.args.hand.now _;
  ready = refl;
  count = ap length c.in-Ok.ensures.items;
  room = omega (arith, c.in-Ok.ensures.capacity);
}

pub hand_at-who-requires : goal.hand_at-who-requires
hand_at-who-requires g c = record {
  few = (let m = c.args.phase.now.means.now in let few = c.requires.lawful.few_gateways in let below = c.loop-number-test.true in
      let count = counted m.script c.requires.lawful c.args.task.now.work c.args.place c.args.sights.now (length c.args.sights.now) c.hand_count-count.result c.requires.ready refl (c.hand_count-count.ensures c.args.place) in
      let most = few_parts c.args.task.now.work (gateway_count m.script.gateways) c.args.place (omega (arith, few)) in omega (arith, below, count, most));
}

pub do_part-requires-clause-within : goal.do_part-requires-clause-within
do_part-requires-clause-within g c =
    let m = c.args.phase.now.means.now in
    let count = counted m.script c.requires.lawful c.args.task.now.work c.args.place c.args.sights.now (length c.args.sights.now) c.hand_count-count.result c.requires.ready refl (c.hand_count-count.ensures c.args.place) in
    let at = c.hand_at-who.ensures (gateway_count m.script.gateways) (omega (arith, c.loop-number-test.true, count)) in
    sync_within m.script c.requires.lawful c.args.place c.loop-number.number c.args.task.now.work c.hand_at-who.result c.requires.work at c.loop-number.sights (c.loop-number.invariant.ready ∙ c.requires.ready)

pub returns-in-Err-clause-step : goal.returns-in-Err-clause-step
returns-in-Err-clause-step g c = λ views shows.
    let m = c.args.phase.now.means.now in
    let seat = seat_of c.args.phase.now.seats.workers in
    let count = counted m.script c.requires.lawful c.args.task.now.work c.args.place c.args.sights.now (length c.args.sights.now) c.hand_count-count.result c.requires.ready refl (c.hand_count-count.ensures c.args.place) in
    let at = c.hand_at-who.ensures (gateway_count m.script.gateways) (omega (arith, c.loop-number-test.true, count)) in
    let f = c.loop-number.invariant.done views shows in
    part_broken (setting_in m) seat c.args.place c.args.task.now views c.loop-number.number c.hand_at-who.result c.loop-number.sights c.do_part.new.sights
    c.args.hand.now.world.journal c.loop-number.hand.world.journal c.do_part.new.hand.world.journal c.loop-number.parts.items f (duty_at (setting_in m) c.args.place c.loop-number.number c.args.task.now c.hand_at-who.result at)
    (task_begins (setting_in m) c.args.place c.args.task.now c.requires.lawful c.requires.work) c.do_part.result c.in-Err.broken c.in-Err.is (subst (λ (es : List Entry). PartStep (line (setting_in m) seat) (duty_of c.args.place c.args.task.now c.hand_at-who.result) f.after c.do_part.new.sights es c.do_part.new.hand.world.journal c.do_part.result) (ap (λ h. h.world.journal) c.at_seat.ensures)
    (c.do_part.ensures.step seat c.args.place f.after (ap (λ h. h.seat) c.at_seat.ensures ∙ c.seat_of.ensures) f.shows))

pub returns-in-Err-clause-hand : goal.returns-in-Err-clause-hand
returns-in-Err-clause-hand g c = broke g.B.Bucket.told Outcome c.args.hand.now c.loop-number.hand c.do_part.new.hand c.do_part.result c.in-Err.broken c.in-Err.is c.loop-number.invariant.hand
    (seated g.B.Bucket.told c.loop-number.hand c.at_seat.new.self c.do_part.new.hand _ _ _ c.at_seat.ensures c.do_part.ensures.hand)

pub loop-number-preserved : goal.loop-number-preserved
loop-number-preserved g c =
    let m = c.args.phase.now.means.now in
    let seat = seat_of c.args.phase.now.seats.workers in
    let count = counted m.script c.requires.lawful c.args.task.now.work c.args.place c.args.sights.now (length c.args.sights.now) c.hand_count-count.result c.requires.ready refl (c.hand_count-count.ensures c.args.place) in
    let at = c.hand_at-who.ensures (gateway_count m.script.gateways) (omega (arith, c.loop-number-test.true, count)) in
    record {
      done = λ views shows.
          let f = c.loop-number.invariant.done views shows in
          part_more (setting_in m) seat c.args.place c.args.task.now views c.loop-number.number c.hand_at-who.result c.loop-number.sights c.do_part.new.sights
          c.args.hand.now.world.journal c.loop-number.hand.world.journal c.do_part.new.hand.world.journal c.loop-number.parts.items f (duty_at (setting_in m) c.args.place c.loop-number.number c.args.task.now c.hand_at-who.result at)
          c.do_part.result c.in-Ok-do_part.part c.push_reserved.new.self.items c.in-Ok-do_part.is c.push_reserved.ensures.items (subst (λ (es : List Entry). PartStep (line (setting_in m) seat) (duty_of c.args.place c.args.task.now c.hand_at-who.result) f.after c.do_part.new.sights es c.do_part.new.hand.world.journal c.do_part.result) (ap (λ h. h.world.journal) c.at_seat.ensures)
          (c.do_part.ensures.step seat c.args.place f.after (ap (λ h. h.seat) c.at_seat.ensures ∙ c.seat_of.ensures) f.shows));
      hand = then_more g.B.Bucket.told c.args.hand.now c.loop-number.hand c.do_part.new.hand _ _ c.loop-number.invariant.hand
          (ended g.B.Bucket.told c.loop-number.hand c.do_part.new.hand c.do_part.result c.in-Ok-do_part.part c.in-Ok-do_part.is
          (seated g.B.Bucket.told c.loop-number.hand c.at_seat.new.self c.do_part.new.hand _ _ _ c.at_seat.ensures c.do_part.ensures.hand));
      ready = c.do_part.ensures.ready ∙ c.loop-number.invariant.ready;
      count = ap length c.push_reserved.ensures.items ∙ length-append c.loop-number.parts.items (c.in-Ok-do_part.part ∷ []) ∙ ap (λ n. n + 1) c.loop-number.invariant.count;
      room = (let a = c.loop-number.invariant.room in let b = c.push_reserved.ensures.capacity in omega arith);
    }

pub gathered_outcome-requires : goal.gathered_outcome-requires
gathered_outcome-requires g c = record {
  few = (let m = c.args.phase.now.means.now in let few = c.requires.lawful.few_gateways in let i = c.loop-number.invariant.count in
      let count = counted m.script c.requires.lawful c.args.task.now.work c.args.place c.args.sights.now (length c.args.sights.now) c.hand_count-count.result c.requires.ready refl (c.hand_count-count.ensures c.args.place) in
      let most = few_parts c.args.task.now.work (gateway_count m.script.gateways) c.args.place (omega (arith, few)) in
      let upto = c.loop-number.auto.number-end in omega (arith, i, count, most, upto));
}

pub returns-clause-step : goal.returns-clause-step
returns-clause-step g c = λ views shows.
    let m = c.args.phase.now.means.now in
    let seat = seat_of c.args.phase.now.seats.workers in
    let count = counted m.script c.requires.lawful c.args.task.now.work c.args.place c.args.sights.now (length c.args.sights.now) c.hand_count-count.result c.requires.ready refl (c.hand_count-count.ensures c.args.place) in
    let f = c.loop-number.invariant.done views shows in
    let whole : c.loop-number.number ≡ length (hands_of_task (gateway_count m.script.gateways) c.args.place c.args.task.now.work) = omega (arith, c.loop-number-test.false, c.loop-number.auto.number-end, count) in
    all_done (setting_in m) seat c.args.place c.args.task.now views c.loop-number.number c.loop-number.sights c.args.hand.now.world.journal c.loop-number.hand.world.journal c.loop-number.parts.items c.gathered_outcome.result f
    (whole ∙ sym (duties_long (setting_in m) c.args.place c.args.task.now)) c.gathered_outcome.ensures.why
    (gathered_is c.args.task.now.work c.loop-number.parts.items c.gathered_outcome.result (c.gathered_outcome.ensures.whole c.args.task.now.work (all_parts c.args.task.now.work (gateway_count m.script.gateways) c.args.place f.ends c.loop-number.parts.items (f.count ∙ whole) f.all)))

pub returns-clause-hand : goal.returns-clause-hand
returns-clause-hand g c = still g.B.Bucket.told c.args.hand.now c.loop-number.hand c.gathered_outcome.result (not_full c.gathered_outcome.result c.gathered_outcome.ensures.why) c.loop-number.invariant.hand
