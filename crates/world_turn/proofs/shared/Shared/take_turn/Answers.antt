use Rattle.std.proofs.Common.{rules, ◌∷◌, Some, ap, ◌∙◌}
use Rattle.world_turn.proofs.Keeps.{takes_turn}
use Rattle.world_turn.proofs.shared.Shared.take_turn.Goals as goal

pub compare_exchange-requires : goal.compare_exchange-requires
compare_exchange-requires g c =
    let i = c.loop.invariant in
    (i.0 ∙ c.requires.own, search rules, takes_turn (λ w. w.journal) (λ w. w.tick) (λ w. g.B.Bucket.told w.bucket) _ _ _ _ _ (ap (λ m. m.0.live) i.2 ∙ c.requires.rests.1))

pub lift-requires-clause-there : goal.lift-requires-clause-there
lift-requires-clause-there g c =
    let i = c.loop.invariant in
    let t = c.compare_exchange.ensures.2.0 c.if-compare_exchange-eq-FREE.true in
    (t.0, ap (λ m. m.1) t.1 ∙ ap (λ l. (0, Some t.0) ∷ l) (ap (λ m. m.1) i.2 ∙ c.requires.rests.0))
