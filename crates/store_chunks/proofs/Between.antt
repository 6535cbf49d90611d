-- The members of one number, in a list that ascends by numbers, stand between those with lesser ones and those with greater ones.
use Rattle.std.proofs.Common.{◌≡◌, ℕ, zero, suc, ◌+◌, ◌<◌, ◌≤◌, ◌==◌, true, false, List, [], ◌∷◌, take, drop, length, get_or, filter, refl, sym, ap, subst, ◌-◌, ◌∙◌, arith}
use Rattle.std.specs.Prelude.{nat_lt, nat_le}
use Rattle.std.specs.List.Sorted.{IsPartitionPoint}
use Rattle.std.proofs.lemmas.List.{take_all, length-drop, get_or-drop}
use Rattle.std.proofs.lemmas.Bool.Decides.{nat_tests}
use Rattle.base.proofs.Lists.{filter_hit, filter_miss}

module _ {X : Type 0} (n : X → ℕ) (r : ℕ) where
  equal_front : (xs : List X) (end : ℕ) → ((k : ℕ) (d : X) → k < end → k < length xs → n (get_or xs k d) ≡ r) → ((k : ℕ) (d : X) → end ≤ k → k < length xs → r < n (get_or xs k d)) → take end xs ≡ filter (λ x. n x == r) xs
  equal_front [] zero are above = refl
  equal_front [] (suc end) are above = refl
  equal_front (x ∷ xs) zero are above =
      let h : r < n x = above 0 x (omega arith) (omega arith) in
      let f : (n x == r) ≡ false = grind (arith, nat_tests) in
      equal_front xs zero (λ k d a b. absurd (omega arith)) (λ k d a b. above (suc k) d (omega arith) (omega arith)) ∙ sym (filter_miss (λ x. n x == r) x xs f)
  equal_front (x ∷ xs) (suc end) are above =
      let h : n x ≡ r = are 0 x (omega arith) (omega arith) in
      let t : (n x == r) ≡ true = grind (arith, nat_tests) in
      ap (λ (ys : List X). x ∷ ys) (equal_front xs end (λ k d a b. are (suc k) d (omega arith) (omega arith)) (λ k d a b. above (suc k) d (omega arith) (omega arith)))
      ∙ sym (filter_hit (λ x. n x == r) x xs t)

  between : (xs : List X) (start end : ℕ) → ((k : ℕ) (d : X) → k < start → k < length xs → n (get_or xs k d) < r)
      → ((k : ℕ) (d : X) → k < end → k < length (drop start xs) → n (get_or (drop start xs) k d) ≡ r) → ((k : ℕ) (d : X) → end ≤ k → k < length (drop start xs) → r < n (get_or (drop start xs) k d))
      → take end (drop start xs) ≡ filter (λ x. n x == r) xs
  between xs zero end below are above = equal_front xs end are above
  between [] (suc start) zero below are above = refl
  between [] (suc start) (suc end) below are above = refl
  between (x ∷ xs) (suc start) end below are above =
      let h : n x < r = below 0 x (omega arith) (omega arith) in
      let f : (n x == r) ≡ false = grind (arith, nat_tests) in
      between xs start end (λ k d a b. below (suc k) d (omega arith) (omega arith)) are above ∙ sym (filter_miss (λ x. n x == r) x xs f)

  -- between the points at which those that are less, and those that are not greater, end
  pub between_points : (xs : List X) (start end : ℕ) → IsPartitionPoint (λ y. nat_lt (n y) r ≡ true) (λ y. nat_lt (n y) r ≡ false) xs start
      → IsPartitionPoint (λ y. nat_le (n y) r ≡ true) (λ y. nat_le (n y) r ≡ false) (drop start xs) end
      → ((k : ℕ) (d : X) → k < length (drop start xs) → nat_lt (n (get_or (drop start xs) k d)) r ≡ false)
      → take end (drop start xs) ≡ filter (λ x. n x == r) xs
  between_points xs start end least most from = between xs start end
      (λ k d a b. let t : nat_lt (n (get_or xs k d)) r ≡ true = least.0 k d (omega arith) a in grind (arith, nat_tests))
      (λ k d a b. let t : nat_le (n (get_or (drop start xs) k d)) r ≡ true = most.0 k d (omega arith) a in let f : nat_lt (n (get_or (drop start xs) k d)) r ≡ false = from k d b in grind (arith, nat_tests))
      (λ k d a b. let f : nat_le (n (get_or (drop start xs) k d)) r ≡ false = most.1 k d a b in grind (arith, nat_tests))

  -- the same, where the second point is sought in what a slice from the first one on has
  pub between_parts : (xs : List X) (start end : ℕ) → IsPartitionPoint (λ y. nat_lt (n y) r ≡ true) (λ y. nat_lt (n y) r ≡ false) xs start
      → IsPartitionPoint (λ y. nat_le (n y) r ≡ true) (λ y. nat_le (n y) r ≡ false) (take (length xs - start) (drop start xs)) end
      → take end (take (length xs - start) (drop start xs)) ≡ filter (λ x. n x == r) xs
  between_parts xs start end least most =
      let rest : take (length xs - start) (drop start xs) ≡ drop start xs = take_all (length xs - start) (drop start xs) (omega (arith, length-drop start xs)) in
      ap (take end) rest
      ∙ between_points xs start end least
      (subst (λ (l : List X). IsPartitionPoint (λ y. nat_le (n y) r ≡ true) (λ y. nat_le (n y) r ≡ false) l end) rest most)
      (λ k d a. subst (λ (x : X). nat_lt (n x) r ≡ false) (sym (get_or-drop start xs k d)) (least.1 (start + k) d (omega arith) (omega (arith, a, length-drop start xs))))
