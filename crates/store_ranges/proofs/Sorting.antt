-- Numbers that were sorted, and of which each was kept once.
use Rattle.std.proofs.Common.{◌≡◌, ℕ, List, eqb, sym, subst}
use Rattle.std.specs.Ordering.{nat_cmp}
use Rattle.std.specs.List.{dedup}
use Rattle.std.specs.List.Sorted.{IsSorted, IsPermutation}
use Rattle.std.proofs.lemmas.List.Sorted.{Contains-permutation, IsPermutation-sym}
use Rattle.std.proofs.lemmas.List.Kept.{Contains-dedup_nat, Contains-from_dedup}
use Rattle.std.proofs.lemmas.Map.Keys.{IsStrictlyIncreasing-dedup}
use Rattle.store_ranges.specs.ChunkRanges.{IsSetOf}

pub set_of : (list sorted set : List ℕ) → IsSorted nat_cmp sorted → IsPermutation list sorted → set ≡ dedup eqb sorted → IsSetOf list set
set_of list sorted set up same is = subst (IsSetOf list) (sym is) (record {
  increasing = IsStrictlyIncreasing-dedup sorted up;
  members = λ x. (
    λ within. Contains-permutation sorted list x (IsPermutation-sym list sorted same) (Contains-from_dedup eqb sorted x within),
    λ within. Contains-dedup_nat sorted x (Contains-permutation list sorted x same within),
  );
})
