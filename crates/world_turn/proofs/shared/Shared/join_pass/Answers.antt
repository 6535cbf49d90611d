use Rattle.std.proofs.Common.{rules, sym, ap, ◌∙◌}
use Rattle.world_turn.specs.Resting.{first_of}
use Rattle.world_turn.proofs.Keeps.{joins, compares}
use Rattle.world_turn.proofs.shared.Shared.join_pass.Goals as goal

pub join_seat-requires : goal.join_seat-requires
join_seat-requires g c =
    let is = sym (ap first_of c.into_seat-place.ensures.2) in
    let r = c.args.root.rests in
    let is' = sym (ap first_of c.into_seat.ensures.2) in
    let r' = c.args.worker.rests in (
      c.into_seat-place.ensures.0 ∙ c.requires.own.0,
      c.into_seat.ensures.0 ∙ c.requires.worker,
      c.into_seat.ensures.3,
      search rules,
      joins (λ w. w.journal) (λ w. w.tick) (λ w. g.B.Bucket.told w.bucket) _ _ _ _ _ (c.into_seat-place.ensures.1 ∙ r.first c.requires.own.1) (ap (λ v. v.live) is ∙ r.live) (ap (λ v. v.holds) is ∙ r.rests) (ap (λ v. v.live) is' ∙ r'.live) (ap (λ v. v.holds) is' ∙ r'.rests) (ap (λ v. v.beside) is ∙ r.compared) (ap (λ v. v.beside) is' ∙ r'.compared),
    )

pub load-requires : goal.load-requires
load-requires g c =
    let is = sym (ap first_of c.into_seat-place.ensures.2) in
    let r = c.args.root.rests in
    let m = c.join_seat.ensures.2 in
    (c.join_seat.ensures.0 ∙ (c.into_seat-place.ensures.0 ∙ c.requires.own.0), search rules, compares (λ w. w.journal) (λ w. w.tick) (λ w. g.B.Bucket.told w.bucket) _ _ _ _ _ (ap (λ x. x.0.live) m ∙ (ap (λ v. v.live) is ∙ r.live)) (ap (λ x. x.0.holds) m ∙ (ap (λ v. v.holds) is ∙ r.rests)))
