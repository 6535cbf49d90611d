use Rattle.std.proofs.Common.{[], ◌∷◌, sym, ◌∙◌, subst}
use Rattle.atomic_table.specs.Table.{opening}
use Rattle.world_turn.specs.Opening.{opening_of}
use Rattle.world_turn.specs.Rule.{Rule, root}
use Rattle.world_turn.proofs.Comes.{asked_opening, from_opening}
use Rattle.world_turn.proofs.Keeps.{opens}
use Rattle.world_turn.proofs.shared.Shared.open.Goals as goal

pub new-requires : goal.new-requires
new-requires g c =
    subst (λ xs. Rule (λ w. w.journal) (λ w. w.tick) (λ w. g.B.Bucket.told w.bucket) (opening_of g.B.Bucket.told c.of-opened.result.value) (opening (0 ∷ 0 ∷ []) xs (root (opening_of g.B.Bucket.told c.of-opened.result.value)))) (sym c.in_ok-slots.ensures)
    (opens (λ w. w.journal) (λ w. w.tick) (λ w. g.B.Bucket.told w.bucket) (opening_of g.B.Bucket.told c.of-opened.result.value) c.args.world c.requires
    (from_opening g.B.Bucket.told c.of-opened.result.value c.args.world c.of-opened.ensures)
    (asked_opening g.B.Bucket.told c.of-opened.result.value c.args.world c.of-opened.ensures c.requires))

pub taken_back-requires : goal.taken_back-requires
taken_back-requires g c = (c.args.world, c.in-Err.ensures.err ∙ c.in_ok-slots.ensures)
