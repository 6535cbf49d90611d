use Rattle.std.proofs.Common.{◌≡◌, ◌<◌, ◌≤◌, Option, Some, refl, sym, ◌∙◌, subst}
use Rattle.world_core.specs.Machines.{IfDone}
use Rattle.world_turn.specs.Passes.{view_of}
use Rattle.world_turn.specs.declared.pass.Pass.{Pass}
use Rattle.phase_runner.specs.Hands.{HandView, GoesOn, view_in, seat_in}
use Rattle.phase_runner.proofs.Looking.{acts_above, acts_within}
use Rattle.phase_runner.proofs.Refused.{front_full, front_short}
use Rattle.phase_runner.proofs.hand.TurnHandHand.act.Goals as goal

pub returns-clause-keeps : goal.returns-clause-keeps
returns-clause-keeps g c =
    let is : Some c.in-Some.pass ≡ c.self.inside.pass = sym c.in-Some.is ∙ c.take.ensures.value in
    let pass = c.act-acted.result.1 in
    let table = c.self.inside.shared.now.table.shared.table_id in
    let after : HandView = record { table = table; seat = pass.seat; view = view_of pass } in
    subst (λ (h : HandView). GoesOn h after) c.self.view_is
    (subst (λ (o : Option Pass). GoesOn (record { table = table; seat = seat_in o; view = view_in o }) after) is
    record { table = refl; seat = c.act-acted.ensures.pass.1; later = c.act-acted.ensures.later })

pub returns-clause-full : goal.returns-clause-full
returns-clause-full g c full = front_full _ _ _ _ c.act-acted.ensures.acts full

pub returns-clause-memory : goal.returns-clause-memory
returns-clause-memory g c none = front_short _ _ _ _ c.act-acted.ensures.acts none

pub returns-clause-above : goal.returns-clause-above
returns-clause-above g c =
    let is : Some c.in-Some.pass ≡ c.self.inside.pass = sym c.in-Some.is ∙ c.take.ensures.value in
    subst (λ (h : HandView). IfDone c.act-acted.result.0 (λ seen. h.view.known < seen.seq)) c.self.view_is
    (subst (λ (o : Option Pass). IfDone c.act-acted.result.0 (λ seen. (view_in o).known < seen.seq)) is (acts_above _ _ _ _ c.act-acted.ensures.acts))

pub returns-clause-within : goal.returns-clause-within
returns-clause-within g c = acts_within _ _ _ _ c.act-acted.ensures.acts

pub returns-clause-known : goal.returns-clause-known
returns-clause-known g c =
    let is : Some c.in-Some.pass ≡ c.self.inside.pass = sym c.in-Some.is ∙ c.take.ensures.value in
    subst (λ (h : HandView). h.view.known ≤ (view_of c.act-acted.result.1).known) c.self.view_is
    (subst (λ (o : Option Pass). (view_in o).known ≤ (view_of c.act-acted.result.1).known) is c.act-acted.ensures.later.known)
