use Rattle.std.proofs.Common.{◌≡◌, ◌≢◌, false, ℕ, [], ◌∷◌, ◌++◌, Some, sym, ap, ◌∙◌, subst}
use Rattle.world_core.specs.Machines.{IfDone, gained}
use Rattle.world_core.specs.declared.act.Acted.TheVariants.{NoMemory}
use Rattle.world_core.specs.Moments.{moment_after, last_moment}
use Rattle.world_turn.specs.declared.view.View.{View}
use Rattle.world_turn.specs.Resting.{first_of}
use Rattle.world_turn.specs.Opening.{AsksFrom, ComesFrom}
use Rattle.world_turn.specs.Rule.{opened_of}
use Rattle.world_turn.specs.Steps.{holding}
use Rattle.world_turn.specs.Turns.{Finds, settled}
use Rattle.world_turn.proofs.Later.{acts_then, later_settled}
use Rattle.world_turn.proofs.Comes.{still_from}
use Rattle.world_turn.proofs.shared.Shared.act.Goals as goal

pub settle-requires-clause-worked : goal.settle-requires-clause-worked
settle-requires-clause-worked g c =
    let world = c.act-acted.new.self in
    let j = c.take_turn-world.result.journal in
    let a = c.act-acted.result in
    let m = c.lay.ensures.world ∙ ap (λ x. (x.0, (0, Some world) ∷ [])) c.take_turn-world.ensures.holds.1 in
    let b = c.take_turn-world.ensures.holds.0 in
    let seat = sym c.args.pass.rests.sits ∙ ap (λ l. (first_of l).seat) c.into_seat-place.ensures.2 in (
      world,
      ap (λ x. x.1) m,
      subst (λ (u : View). world.journal ≡ u.held ++ gained u.seat c.of-asked.result.value a) (sym (ap (λ x. x.0) m)) (c.act-acted.ensures.added ∙ (ap (λ (n : ℕ). j ++ gained n c.args.op a) seat ∙ ap (λ o. j ++ gained (c.into_seat-place.result.me.0).seat o a) (sym c.of-asked.ensures))),
      subst (λ (u : View). ComesFrom g.B.Bucket.told (opened_of u) world) (sym (ap (λ x. x.0) m))
          (still_from g.B.Bucket.told (opened_of c.into_seat-place.result.me.0) c.take_turn-world.result world c.args.pass.seat c.args.op a c.act-acted.ensures.added c.act-acted.ensures.tick c.act-acted.ensures.later
          c.act-acted.ensures.only c.act-acted.ensures.calm c.take_turn-world.ensures.comes),
      c.act-acted.ensures.holds.journal.few,
      subst (λ (u : View). a ≢ NoMemory → u.held_wanted ≡ false → AsksFrom g.B.Bucket.told (opened_of u) world) (sym (ap (λ x. x.0) m))
          (λ done never before all. c.act-acted.ensures.all done before (c.take_turn-world.ensures.holds.2 never before all)),
    )

pub returns-clause-acts : goal.returns-clause-acts
returns-clause-acts g c =
    let world = c.act-acted.new.self in
    let j = c.take_turn-world.result.journal in
    let a = c.act-acted.result in
    let v = first_of c.args.pass.badge.views in
    let is : v ≡ c.into_seat-place.result.me.0 = ap first_of c.into_seat-place.ensures.2 in
    let m = c.lay.ensures.world ∙ ap (λ x. (x.0, (0, Some world) ∷ [])) c.take_turn-world.ensures.holds.1 in
    let b = c.take_turn-world.ensures.holds.0 in
    let left = ap first_of c.into_badge-badge.ensures.2 ∙ (ap (λ x. x.0) c.settle.ensures.settled ∙ (ap (λ x. settled x.0 c.of-asked.result.value a) m
    ∙ (ap (λ o. settled (holding c.into_seat-place.result.me.0 j b) o a) c.of-asked.ensures ∙ ap (λ (u : View). settled (holding u j b) c.args.op a) (sym is)))) in
    let tick = c.take_turn-world.ensures.comes.tick ∙ ap (λ (u : View). u.tick) (sym is) in
    acts_then v j b c.args.op a _ (subst (λ (u : View). Finds u j) (sym is) c.take_turn-world.ensures.finds) c.act-acted.ensures.full c.act-acted.ensures.answer c.act-acted.ensures.seq
    (subst (λ (n : ℕ). IfDone a (λ seen. seen.moment.ms ≡ moment_after n (last_moment j) c.args.op)) tick c.act-acted.ensures.moment) left

pub returns-clause-later : goal.returns-clause-later
returns-clause-later g c =
    let world = c.act-acted.new.self in
    let j = c.take_turn-world.result.journal in
    let a = c.act-acted.result in
    let v = first_of c.args.pass.badge.views in
    let is : v ≡ c.into_seat-place.result.me.0 = ap first_of c.into_seat-place.ensures.2 in
    let m = c.lay.ensures.world ∙ ap (λ x. (x.0, (0, Some world) ∷ [])) c.take_turn-world.ensures.holds.1 in
    let b = c.take_turn-world.ensures.holds.0 in
    let left = ap first_of c.into_badge-badge.ensures.2 ∙ (ap (λ x. x.0) c.settle.ensures.settled ∙ (ap (λ x. settled x.0 c.of-asked.result.value a) m
    ∙ (ap (λ o. settled (holding c.into_seat-place.result.me.0 j b) o a) c.of-asked.ensures ∙ ap (λ (u : View). settled (holding u j b) c.args.op a) (sym is)))) in
    later_settled v j b c.args.op a _ (subst (λ (u : View). Finds u j) (sym is) c.take_turn-world.ensures.finds) c.act-acted.ensures.seq left
