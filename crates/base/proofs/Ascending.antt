-- A test of neighbours tells whether keys strictly ascend.
use Rattle.std.proofs.Common.{◌≡◌, ℕ, ◌+◌, ◌<◌, Bool, true, false, List, [], ◌∷◌, map, length, get_or, refl, sym, ap, ◌∙◌, arith}
use Rattle.std.specs.Prelude.{IsTrue, ◌↔◌}
use Rattle.std.specs.declared.cmp.Ordering.{Ordering}
use Rattle.std.specs.declared.cmp.Ordering.TheVariants.{Less}
use Rattle.std.specs.Ordering.{is_lt}
use Rattle.std.specs.Cmp.{IsTotalOrder}
use Rattle.std.specs.List.{IsAllAdjacentAnswer, AllAdjacentBelow}
use Rattle.std.specs.List.Sorted.{IsStrictlySortedBy}
use Rattle.std.proofs.lemmas.Bool.{true≢false}
use Rattle.std.proofs.lemmas.List.{get_or-map, length-map}
use Rattle.std.proofs.lemmas.Map.Keys.{sorted_from_all_adjacent, Less-from_sorted}
use Rattle.base.proofs.Bools.{Less-from_is_lt}

module _ {X K : Type 0} (R : K → K → Ordering) (o : IsTotalOrder R) (key : X → K) where
  next : (x : X) (xs : List X) → AllAdjacentBelow (λ a b. true ≡ is_lt (R (key a) (key b))) (x ∷ xs) (length (x ∷ xs)) → (k : ℕ) → k + 1 < length (map key (x ∷ xs))
      → R (get_or (map key (x ∷ xs)) k (key x)) (get_or (map key (x ∷ xs)) (k + 1) (key x)) ≡ Less
  next x xs each k lt =
      let below : k + 1 < length (x ∷ xs) = omega (arith, lt, length-map (x ∷ xs) key) in
      let within : k < length (x ∷ xs) = omega (arith, below) in
      ap (λ a. R a (get_or (map key (x ∷ xs)) (k + 1) (key x))) (get_or-map key (x ∷ xs) k x (key x) within)
      ∙ ap (R (key (get_or (x ∷ xs) k x))) (get_or-map key (x ∷ xs) (k + 1) x (key x) below)
      ∙ Less-from_is_lt (R (key (get_or (x ∷ xs) k x)) (key (get_or (x ∷ xs) (k + 1) x))) (sym (each k x below))

  ascend_from : (xs : List X) → AllAdjacentBelow (λ a b. true ≡ is_lt (R (key a) (key b))) xs (length xs) → IsStrictlySortedBy R (map key xs)
  unfolding IsStrictlySortedBy
  ascend_from [] each = tt
  ascend_from (x ∷ xs) each = sorted_from_all_adjacent o (map key (x ∷ xs)) (key x) (next x xs each)

  not_ascending : (xs : List X) → (k : ℕ) × (k + 1 < length xs) × ((d : X) → false ≡ is_lt (R (key (get_or xs k d)) (key (get_or xs (k + 1) d)))) → IsStrictlySortedBy R (map key xs) → ⊥
  not_ascending [] at up = absurd (omega (arith, at.1))
  not_ascending (x ∷ xs) (k, lt, at) up =
      let within : k < length (x ∷ xs) = omega (arith, lt) in
      let less : R (get_or (map key (x ∷ xs)) k (key x)) (get_or (map key (x ∷ xs)) (k + 1) (key x)) ≡ Less =
      Less-from_sorted R (map key (x ∷ xs)) k (k + 1) (key x) up (omega arith) (omega (arith, lt, length-map (x ∷ xs) key)) in
      true≢false (ap is_lt (sym less
      ∙ ap (λ a. R a (get_or (map key (x ∷ xs)) (k + 1) (key x))) (get_or-map key (x ∷ xs) k x (key x) within)
      ∙ ap (R (key (get_or (x ∷ xs) k x))) (get_or-map key (x ∷ xs) (k + 1) x (key x) lt)) ∙ sym (at x))

  pub ascends_answer : (xs : List X) (r : Bool) → IsAllAdjacentAnswer (λ a b t. t ≡ is_lt (R (key a) (key b))) xs r → IsTrue r ↔ IsStrictlySortedBy R (map key xs)
  ascends_answer xs true each = (λ _. ascend_from xs each, λ _. refl)
  ascends_answer xs false at = (λ f. absurd (true≢false (sym f)), λ up. absurd (not_ascending xs at up))
