-- The number behind another stands where those that are not above it end.
use Rattle.std.proofs.Common.{◌≡◌, ℕ, zero, suc, ◌+◌, ◌^◌, ◌<◌, ◌≤◌, true, false, List, [], ◌∷◌, length, get_or, Some, refl, sym, subst, ◌∙◌, arith}
use Rattle.std.specs.Prelude.{slice_get, find, nat_lt, nat_le, All}
use Rattle.label_sets.proofs.LabelValues.{by_bool}
use Rattle.std.specs.List.Sorted.{IsStrictlyIncreasing, IsPartitionPoint}
use Rattle.std.proofs.lemmas.Bool.Decides.{nat_tests}
use Rattle.std.proofs.lemmas.Map.Keys.{sorted_from_strictly_increasing, non_decreasing_from_sorted}
use Rattle.std.proofs.lemmas.Option.{same_Some}

pub found_at : (number : ℕ) (all : List ℕ) (there : ℕ) → ((k : ℕ) → k < there → k < length all → get_or all k 0 ≤ number) → (there < length all → number < get_or all there 0) → slice_get all there ≡ find (nat_lt number) all
found_at number [] there below above = refl
found_at number (x ∷ xs) zero below above =
    let h : number < x = above (omega arith) in
    let t : nat_lt number x ≡ true = grind (arith, nat_tests) in
    rw t refl
found_at number (x ∷ xs) (suc there) below above =
    let h : x ≤ number = below 0 (omega arith) (omega arith) in
    let f : nat_lt number x ≡ false = grind (arith, nat_tests) in
    rw f (found_at number xs there (λ k a b. below (suc k) (omega arith) (omega arith)) (λ a. above (omega arith)))

-- behind a place at which the number itself stands
pub behind_it : (number : ℕ) (all : List ℕ) (there : ℕ) → IsStrictlyIncreasing all → there < length all → get_or all there 0 ≡ number → slice_get all (there + 1) ≡ find (nat_lt number) all
behind_it number all there up within is =
    let rises = non_decreasing_from_sorted all (sorted_from_strictly_increasing all up) in
    found_at number all (there + 1)
    (λ k a b. subst (λ n. get_or all k 0 ≤ n) is (rises k there 0 (omega arith) within))
    (λ a. subst (λ n. n < get_or all (there + 1) 0) is (up there a))

-- where halving ends
pub behind_point : (number : ℕ) (all : List ℕ) (point : ℕ) → IsPartitionPoint (λ y. nat_le y number ≡ true) (λ y. nat_le y number ≡ false) all point → slice_get all point ≡ find (nat_lt number) all
behind_point number all point is = found_at number all point
    (λ k a b. let t : nat_le (get_or all k 0) number ≡ true = is.0 k 0 (omega arith) a in grind (arith, nat_tests))
    (λ a. let f : nat_le (get_or all point 0) number ≡ false = is.1 point 0 (omega arith) a in grind (arith, nat_tests))

-- ---- numbers of 32 bits

stops : (number x : ℕ) (xs : List ℕ) → nat_lt number x ≡ true → find (nat_lt number) (x ∷ xs) ≡ Some x
stops number x xs t = rw t refl

passes : (number x : ℕ) (xs : List ℕ) → nat_lt number x ≡ false → find (nat_lt number) (x ∷ xs) ≡ find (nat_lt number) xs
passes number x xs f = rw f refl

pub behind_small : (number next : ℕ) (all : List ℕ) → All (λ n. n < 2 ^ 32) all → find (nat_lt number) all ≡ Some next → next < 2 ^ 32
behind_small number next [] small is = absurd (cc (is))
behind_small number next (x ∷ xs) small is = by_bool (nat_lt number x)
    (λ t. subst (λ n. n < 2 ^ 32) (same_Some x next (sym (stops number x xs t) ∙ is)) (small 0 x (omega arith)))
    (λ f. behind_small number next xs (λ k d h. small (suc k) d (omega arith)) (sym (passes number x xs f) ∙ is))
