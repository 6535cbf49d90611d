use Rattle.std.proofs.Common.{rules, sym, ap, ◌∙◌}
use Rattle.world_turn.specs.Resting.{first_of}
use Rattle.world_turn.proofs.Keeps.{looks}
use Rattle.world_turn.proofs.shared.Shared.look.Goals as goal

pub load-count-requires : goal.load-count-requires
load-count-requires g c =
    let is = sym (ap first_of c.into_seat-place.ensures.2) in
    let r = c.args.pass.rests in
    (c.into_seat-place.ensures.0 ∙ c.requires.own, search rules, looks (λ w. w.journal) (λ w. w.tick) (λ w. g.B.Bucket.told w.bucket) _ _ _ _ _ (ap (λ v. v.live) is ∙ r.live) (ap (λ v. v.holds) is ∙ r.rests))
