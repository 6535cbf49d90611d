use Rattle.std.proofs.lemmas.List.{get_or_default}
use Rattle.script_workers.proofs.HandLists.{workers_more, workers_end}
use Rattle.script_workers.proofs.workers.phase_workers.Goals as goal

pub loop-hand-preserved : goal.loop-hand-preserved
loop-hand-preserved c =
    let hands = c.as_slice-hand-items.result.now in
    workers_more c.args.gateways c.args.tasks.now hands c.loop-hand.hand-index c.loop-hand.seat c.saturating_add-seat.result _ c.in_ok-worker_of.field-0 c.loop-hand.workers _ _ c.loop-hand-test.true (get_or_default hands c.loop-hand.hand-index _ _ c.loop-hand-test.true) c.saturating_add-seat.ensures c.in_ok-worker_of.ensures c.in_ok-push.ensures.ok c.loop-hand.invariant

pub returns : goal.returns
returns c =
    workers_end c.args.gateways c.loop-hand.seat c.args.tasks.now c.as_slice-hand-items.result.now c.loop-hand.hand-index c.loop-hand.workers _ c.loop-hand-test.false c.loop-hand.invariant
