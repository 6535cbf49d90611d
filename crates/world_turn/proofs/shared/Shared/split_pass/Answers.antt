use Rattle.std.proofs.Common.{rules, sym, ap, ◌∙◌}
use Rattle.world_turn.specs.Resting.{first_of}
use Rattle.world_turn.proofs.Keeps.{splits}
use Rattle.world_turn.proofs.shared.Shared.split_pass.Goals as goal

pub split_seat-new-requires : goal.split_seat-new-requires
split_seat-new-requires g c =
    let is = sym (ap first_of c.into_seat-place.ensures.2) in
    let r = c.args.root.rests in
    (c.into_seat-place.ensures.0 ∙ c.requires.own.0, search rules, splits (λ w. w.journal) (λ w. w.tick) (λ w. g.B.Bucket.told w.bucket) _ _ _ (c.into_seat-place.ensures.1 ∙ r.first c.requires.own.1) (ap (λ v. v.live) is ∙ r.live) (ap (λ v. v.holds) is ∙ r.rests))
