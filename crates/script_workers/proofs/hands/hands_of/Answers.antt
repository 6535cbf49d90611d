use Rattle.std.proofs.Common.{sym, ◌∙◌, arith}
use Rattle.script_workers.proofs.HandLists.{hands_from-next, hands_from-end}
use Rattle.script_workers.proofs.hands.hands_of.Goals as goal

pub loop-place-preserved : goal.loop-place-preserved
loop-place-preserved c =
    let next = hands_from-next c.args.gateways c.loop-place.hands.items c.args.tasks.now c.loop-place.place c.index-tasks-place.result c.loop-place-test.true c.index-tasks-place.is in
    rw c.in_ok-add_hands.ensures.put (sym next ∙ c.loop-place.invariant)

pub returns : goal.returns
returns c =
    sym (hands_from-end c.args.gateways c.loop-place.hands.items c.args.tasks.now c.loop-place.place (omega arith)) ∙ c.loop-place.invariant
