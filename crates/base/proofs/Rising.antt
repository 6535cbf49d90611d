-- Numbers that strictly ascend.
use Rattle.std.proofs.Common.{◌≡◌, inl, inr, ℕ, suc, ◌+◌, ◌<◌, ◌≤◌, List, ◌∷◌, length, get_or, ap, subst, arith, []}
use Rattle.std.specs.Prelude.{Contains}
use Rattle.std.specs.declared.cmp.Ordering.TheVariants.{Less}
use Rattle.std.specs.Ordering.{nat_cmp}
use Rattle.std.specs.List.Sorted.{IsStrictlyIncreasing, IsStrictlySortedBy}
use Rattle.std.proofs.lemmas.Bool.{cases_lt}
use Rattle.std.proofs.lemmas.Map.Keys.{sorted_head, below_from_sorted, sorted_from_strictly_increasing}
use Rattle.base.proofs.Bools.{lt-from_Less}
use Rattle.base.proofs.Membership.{each_member}

-- the first is below the others
pub above_first : (x y : ℕ) (xs : List ℕ) → IsStrictlySortedBy nat_cmp (x ∷ xs) → Contains xs y → x < y
above_first x y xs up among = lt-from_Less x y (each_member (λ z. nat_cmp x z ≡ Less) xs y (sorted_head nat_cmp x xs up) among)

pub rest_rises : (x : ℕ) (xs : List ℕ) → IsStrictlyIncreasing (x ∷ xs) → IsStrictlyIncreasing xs
rest_rises x xs rise = λ k lt. subst (λ (i : ℕ). get_or xs k 0 < get_or (x ∷ xs) i 0) {x = suc k + 1} {y = suc (k + 1)} (omega arith) (rise (suc k) (omega arith))

-- a member is below what stands behind it
pub rise_less : (xs : List ℕ) → IsStrictlyIncreasing xs → (i j : ℕ) → i < j → j < length xs → get_or xs i 0 < get_or xs j 0
rise_less xs rises i j lt within = below_from_sorted _ i j 0 (sorted_from_strictly_increasing _ rises) lt within

pub rise_le : (xs : List ℕ) → IsStrictlyIncreasing xs → (i j : ℕ) → i ≤ j → j < length xs → get_or xs i 0 ≤ get_or xs j 0
rise_le xs rises i j le lt = elim (cases_lt i j) [
  | inl less ↦ let h = rise_less _ rises i j less lt in omega arith
  | inr ge ↦ let same : i ≡ j = omega arith in let e = ap (λ k. get_or xs k 0) same in omega arith
]

pub one_rises : (x : ℕ) → IsStrictlyIncreasing (x ∷ [])
one_rises x k lt = absurd (omega (arith, lt))
