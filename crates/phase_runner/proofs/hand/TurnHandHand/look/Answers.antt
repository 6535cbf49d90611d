use Rattle.std.proofs.Common.{◌≡◌, ◌≤◌, Option, Some, refl, sym, ◌∙◌, subst}
use Rattle.world_turn.specs.Passes.{view_of}
use Rattle.world_turn.specs.declared.pass.Pass.{Pass}
use Rattle.phase_runner.specs.Hands.{HandView, GoesOn, view_in, seat_in}
use Rattle.phase_runner.proofs.Looking.{looks_later}
use Rattle.phase_runner.proofs.hand.TurnHandHand.look.Goals as goal

pub returns-clause-keeps : goal.returns-clause-keeps
returns-clause-keeps g c =
    let is : Some c.in-Some.pass ≡ c.self.inside.pass = sym c.in-Some.is ∙ c.take.ensures.value in
    let pass = c.look-count.result.1 in
    let table = c.self.inside.shared.now.table.shared.table_id in
    let after : HandView = record { table = table; seat = pass.seat; view = view_of pass } in
    subst (λ (h : HandView). GoesOn h after) c.self.view_is
    (subst (λ (o : Option Pass). GoesOn (record { table = table; seat = seat_in o; view = view_in o }) after) is
    record { table = refl; seat = c.look-count.ensures.pass.1; later = looks_later _ _ _ c.look-count.ensures.looks })

pub returns-clause-known : goal.returns-clause-known
returns-clause-known g c =
    let is : Some c.in-Some.pass ≡ c.self.inside.pass = sym c.in-Some.is ∙ c.take.ensures.value in
    let later = looks_later _ _ _ c.look-count.ensures.looks in
    subst (λ (h : HandView). h.view.known ≤ (view_of c.look-count.result.1).known) c.self.view_is
    (subst (λ (o : Option Pass). (view_in o).known ≤ (view_of c.look-count.result.1).known) is later.known)
