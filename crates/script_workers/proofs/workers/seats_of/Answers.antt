use Rattle.std.proofs.Common.{sym, ◌∙◌}
use Rattle.script_workers.proofs.HandLists.{seats_more, seats_from-end}
use Rattle.script_workers.proofs.workers.seats_of.Goals as goal

pub loop-phase-preserved : goal.loop-phase-preserved
loop-phase-preserved c =
    seats_more c.args.gateways c.loop-phase.seats c.loop-phase.phase-index c.len.result c.small_count.result _ _ c.args.phases.now c.phase-item.result c.members.result.now c.in_ok-hands.hands.items c.loop-phase-test.true c.phase-item.is c.in_ok-hands.ensures c.members.ensures (c.len.ensures ∙ c.in_ok-hands.hands.ok.0) c.small_count.ensures c.saturating_add-seats.ensures c.loop-phase.invariant

pub returns : goal.returns
returns c =
    sym (seats_from-end c.args.gateways c.loop-phase.seats c.args.phases.now c.loop-phase.phase-index c.loop-phase-test.false) ∙ c.loop-phase.invariant
