use Rattle.std.proofs.Common.{sym, ◌∙◌, arith}
use Rattle.script_workers.proofs.HandLists.{places_more, places_same, places_end}
use Rattle.script_workers.proofs.hands.places_of.Goals as goal
use Rattle.script_workers.proofs.hands.places_of.Goals.{then-does+in_ok-push, else-does}

pub loop-place-preserved : goal.loop-place-preserved
loop-place-preserved c =
    let turn = c.index-tasks-place in
    elim c.if-does.branch [
      | then-does+in_ok-push w ↦ places_more _ _ _ _ turn.result _ _ _ c.loop-place-test.true turn.is (sym c.does.ensures ∙ w.if-does.true) (w.places-is ∙ w.in_ok-push.ensures.ok) c.loop-place.invariant
      | else-does w ↦ places_same _ _ _ _ turn.result _ _ _ c.loop-place-test.true turn.is (sym c.does.ensures ∙ w.if-does.false) w.places-is c.loop-place.invariant
    ]

pub returns : goal.returns
returns c =
    places_end c.args.gateways c.args.hand c.args.tasks.now c.loop-place.place c.loop-place.places _ (omega arith) c.loop-place.invariant
