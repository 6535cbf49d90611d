use Rattle.std.proofs.Common.{unwrap_or, sym, ap, ◌∙◌, subst}
use mathlib.Core.Option.{some-injective}
use Rattle.world_turn.specs.declared.view.View.{View}
use Rattle.world_turn.specs.Closing.{AllJoined, Closes}
use Rattle.world_turn.specs.Opening.{AsksFrom, ComesFrom, opening_of}
use Rattle.world_turn.specs.Resting.{first_of}
use Rattle.world_turn.proofs.Comes.{asked_since}
use Rattle.world_turn.proofs.Keeps.{closes}
use Rattle.world_turn.proofs.shared.Shared.close.Goals as goal

pub world_in_slot-requires : goal.world_in_slot-requires
world_in_slot-requires g c =
    let is = sym (ap first_of c.into_seat.ensures.2) in
    let r = c.args.root.rests in
    let end = closes (λ w. w.journal) (λ w. w.tick) (λ w. g.B.Bucket.told w.bucket) _ _ _ _ _ (c.into_seat.ensures.1 ∙ r.first c.requires.own.1) (ap (λ v. v.live) is ∙ r.live) (ap (λ v. v.holds) is ∙ r.rests) (ap (λ v. v.seat) is ∙ (r.sits ∙ c.requires.own.1)) (ap (λ v. v.beside) is ∙ r.compared) (subst AllJoined (sym is) c.requires.all) c.close_with-closed.ensures.values.2 in
    (end.0, sym (some-injective _ _ (sym end.1 ∙ c.take-slot.ensures.value)))

pub returns-clause-closes : goal.returns-clause-closes
returns-clause-closes g c =
    let is = sym (ap first_of c.into_seat.ensures.2) in
    let r = c.args.root.rests in
    let end = closes (λ w. w.journal) (λ w. w.tick) (λ w. g.B.Bucket.told w.bucket) _ _ _ _ _ (c.into_seat.ensures.1 ∙ r.first c.requires.own.1) (ap (λ v. v.live) is ∙ r.live) (ap (λ v. v.holds) is ∙ r.rests) (ap (λ v. v.seat) is ∙ (r.sits ∙ c.requires.own.1)) (ap (λ v. v.beside) is ∙ r.compared) (subst AllJoined (sym is) c.requires.all) c.close_with-closed.ensures.values.2 in
    let same = ap (λ o. unwrap_or o end.0) (some-injective _ _ (sym end.1 ∙ c.take-slot.ensures.value) ∙ c.world_in_slot.ensures) in
    subst (λ (v : View). Closes v c.world_in_slot.result.tick c.world_in_slot.result.journal) is (subst (λ w. Closes c.into_seat.result.me.0 w.tick w.journal) same end.2)

pub returns-clause-comes : goal.returns-clause-comes
returns-clause-comes g c =
    let is = sym (ap first_of c.into_seat.ensures.2) in
    let r = c.args.root.rests in
    let end = closes (λ w. w.journal) (λ w. w.tick) (λ w. g.B.Bucket.told w.bucket) _ _ _ _ _ (c.into_seat.ensures.1 ∙ r.first c.requires.own.1) (ap (λ v. v.live) is ∙ r.live) (ap (λ v. v.holds) is ∙ r.rests) (ap (λ v. v.seat) is ∙ (r.sits ∙ c.requires.own.1)) (ap (λ v. v.beside) is ∙ r.compared) (subst AllJoined (sym is) c.requires.all) c.close_with-closed.ensures.values.2 in
    let same = ap (λ o. unwrap_or o end.0) (some-injective _ _ (sym end.1 ∙ c.take-slot.ensures.value) ∙ c.world_in_slot.ensures) in
    subst (λ w. ComesFrom g.B.Bucket.told (opening_of g.B.Bucket.told c.args.self.table.shared.key.value) w) same end.3

pub returns-clause-all : goal.returns-clause-all
returns-clause-all g c never before all =
    let is = sym (ap first_of c.into_seat.ensures.2) in
    let r = c.args.root.rests in
    let end = closes (λ w. w.journal) (λ w. w.tick) (λ w. g.B.Bucket.told w.bucket) _ _ _ _ _ (c.into_seat.ensures.1 ∙ r.first c.requires.own.1) (ap (λ v. v.live) is ∙ r.live) (ap (λ v. v.holds) is ∙ r.rests) (ap (λ v. v.seat) is ∙ (r.sits ∙ c.requires.own.1)) (ap (λ v. v.beside) is ∙ r.compared) (subst AllJoined (sym is) c.requires.all) c.close_with-closed.ensures.values.2 in
    let same = ap (λ o. unwrap_or o end.0) (some-injective _ _ (sym end.1 ∙ c.take-slot.ensures.value) ∙ c.world_in_slot.ensures) in
    asked_since g.B.Bucket.told c.args.self.table.shared.key.value c.world_in_slot.result c.args.self.fresh
    (subst (λ w. AsksFrom g.B.Bucket.told (opening_of g.B.Bucket.told c.args.self.table.shared.key.value) w) same (end.4 (ap (λ v. v.wanted) is ∙ never))) before all
