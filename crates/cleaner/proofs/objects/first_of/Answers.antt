use Rattle.std.proofs.Common.{◌≡◌, sym, subst, List, [], ◌∷◌, drop, Option}
use Rattle.std.specs.Prelude.{MatchOption}
use Rattle.block_keys.specs.declared.key.Key.{Key}
use Rattle.cleaner.proofs.Keys.{first_lent}
use Rattle.cleaner.proofs.objects.first_of.Goals as goal

pub returns : goal.returns
returns c =
    let objects : List Key = c.args.objects.now.items in
    subst (λ (o : Option Key). MatchOption o (objects ≡ []) (λ object. objects ≡ object ∷ drop 1 objects)) (sym c.copied.ensures) (first_lent objects c.front.result c.front.ensures.item)
