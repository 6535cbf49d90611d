use Rattle.std.proofs.Common.{arith, refl, sym, ◌∙◌}
use Rattle.base.proofs.Bools.{Equal-from_is_eq}
use Rattle.index_v2.proofs.RankPlaces.{stands_here}
use Rattle.index_v2.proofs.ranks.is_at.Goals as goal

pub returns-clause-found : goal.returns-clause-found
returns-clause-found c =
    λ e rows name value alike. stands_here rows _ name value _ alike c.args.place _ _ _ (omega arith) refl c.compare_ranks.ensures (Equal-from_is_eq _ (sym c.is_eq.ensures ∙ e))
