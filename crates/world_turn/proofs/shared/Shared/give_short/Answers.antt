use Rattle.std.proofs.Common.{rules, ap, ◌∙◌}
use Rattle.atomic_table.specs.Table.{rest}
use Rattle.world_turn.specs.Steps.{leaving_short}
use Rattle.world_turn.proofs.Keeps.{gives_turn_short}
use Rattle.world_turn.proofs.shared.Shared.give_short.Goals as goal

pub store-requires : goal.store-requires
store-requires g c =
    let h = c.requires.lies in
    (c.requires.own, search rules, gives_turn_short (λ w. w.journal) (λ w. w.tick) (λ w. g.B.Bucket.told w.bucket) _ _ _ _ _ h.0 c.requires.holds.0 c.requires.holds.1 h.1 h.2 h.3)

pub returns-clause-gives : goal.returns-clause-gives
returns-clause-gives g c = c.store.ensures.2 ∙ ap (λ l. (leaving_short c.args.place.now.me.0, rest l)) c.requires.lies.1
