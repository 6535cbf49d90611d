use Rattle.std.proofs.Common.{◌≡◌, false, ◌++◌, append-nil, refl, sym, ap, ◌∙◌, subst}
use Rattle.world_core.specs.Machines.{gained}
use Rattle.world_core.specs.Operations.{entry_of}
use Rattle.world_turn.specs.Opening.{AsksFrom, ComesFrom}
use Rattle.world_turn.specs.Rule.{opened_of}
use Rattle.world_turn.specs.declared.view.View.{View}
use Rattle.world_turn.proofs.shared.Shared.settle.Goals as goal

pub append-requires-clause-lies : goal.append-requires-clause-lies
append-requires-clause-lies g c =
    let h = c.requires.worked in
    let v = c.args.place.now.me.0 in
    (h.0, entry_of v.seat c.args.asked.now.value c.in-Done.field-0, h.1, h.2 ∙ ap (λ a. v.held ++ gained v.seat c.args.asked.now.value a) c.in-Done.is, refl, h.4)

pub give-requires-clause-holds : goal.give-requires-clause-holds
give-requires-clause-holds g c =
    let h = c.requires.worked in
    let v = c.args.place.now.me.0 in
    let m = c.append.ensures.added h.0 (entry_of v.seat c.args.asked.now.value c.in-Done.field-0) h.1 (h.2 ∙ ap (λ a. v.held ++ gained v.seat c.args.asked.now.value a) c.in-Done.is) in
    (ap (λ x. x.0.live) m ∙ c.requires.holds.0, ap (λ x. x.0.holds) m ∙ c.requires.holds.1)

pub give-requires-clause-lies : goal.give-requires-clause-lies
give-requires-clause-lies g c =
    let h = c.requires.worked in
    let v = c.args.place.now.me.0 in
    let j = h.2 ∙ ap (λ a. v.held ++ gained v.seat c.args.asked.now.value a) c.in-Done.is in
    let m = c.append.ensures.added h.0 (entry_of v.seat c.args.asked.now.value c.in-Done.field-0) h.1 j in (
      h.0,
      ap (λ x. x.1) m ∙ h.1,
      j ∙ sym (ap (λ x. x.0.held) m),
      subst (λ (v : View). ComesFrom g.B.Bucket.told (opened_of v) h.0) (sym (ap (λ x. x.0) m)) h.3,
      subst (λ (v : View). v.held_wanted ≡ false → AsksFrom g.B.Bucket.told (opened_of v) h.0) (sym (ap (λ x. x.0) m)) (λ never. h.5 (λ e. cc (e, c.in-Done.is)) never),
    )

pub give_full-requires-clause-lies : goal.give_full-requires-clause-lies
give_full-requires-clause-lies g c =
    let h = c.requires.worked in
    let v = c.args.place.now.me.0 in
    (h.0, h.1, h.2 ∙ (ap (λ a. v.held ++ gained v.seat c.args.asked.now.value a) c.in-Full.is ∙ append-nil v.held), h.3, λ never. h.5 (λ e. cc (e, c.in-Full.is)) never)

pub give_short-requires-clause-lies : goal.give_short-requires-clause-lies
give_short-requires-clause-lies g c =
    let h = c.requires.worked in
    let v = c.args.place.now.me.0 in
    (h.0, h.1, h.2 ∙ (ap (λ a. v.held ++ gained v.seat c.args.asked.now.value a) c.in-NoMemory.is ∙ append-nil v.held), h.3)
