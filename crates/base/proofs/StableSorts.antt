-- A stable sort has one result, which `in_order` gives.
use Rattle.std.proofs.Common.{◌≡◌, ℕ, suc, ◌<◌, ◌≤◌, Bool, true, false, not, ◌&&◌, cond, List, [], ◌∷◌, length, get_or, refl, sym, ap, ◌∙◌, subst, arith}
use Rattle.std.specs.Cmp.{IsStrictWeakOrder}
use Rattle.std.specs.List.{AllByRecursion, filter}
use Rattle.std.specs.List.Sorted.{IsSortedBy, IsStableBy, ties}
use Rattle.std.proofs.lemmas.List.Sorted.{sorted_far}
use Rattle.std.proofs.lemmas.Bool.{true≢false}
pub use Rattle.base.specs.Ordered.{Rises}
use Rattle.base.specs.Ordered.{placed, in_order}
use Rattle.base.proofs.Bools.{by_bool}
use Rattle.base.proofs.Lists.{cons_parts, filter_hit, filter_miss}

no_cycle : (b : Bool) → (b ≡ true → b ≡ false) → b ≡ false
no_cycle true h = h refl
no_cycle false h = refl

-- no member of the list is less than x
abbrev pub NoneLess : {A : Type 0} → (A → A → Bool) → A → List A → Type 0
NoneLess less x xs = AllByRecursion (λ y. less y x ≡ false) xs

NoneLess-from_reads : {A : Type 0} (less : A → A → Bool) (x : A) (ys : List A) → ((j : ℕ) → j < length ys → less (get_or ys j x) x ≡ false) → NoneLess less x ys
NoneLess-from_reads less x [] h = tt
NoneLess-from_reads less x (y ∷ ys) h = (h 0 (omega arith), NoneLess-from_reads less x ys (λ j l. h (suc j) (omega arith)))

Rises-from_reads : {A : Type 0} (less : A → A → Bool) (xs : List A) → ((i j : ℕ) (d : A) → i ≤ j → j < length xs → less (get_or xs j d) (get_or xs i d) ≡ false) → Rises less xs
Rises-from_reads less [] h = tt
Rises-from_reads less (x ∷ xs) h = (NoneLess-from_reads less x xs (λ j l. h 0 (suc j) x (omega arith) (omega arith)), Rises-from_reads less xs (λ i j d a b. h (suc i) (suc j) d (omega arith) (omega arith)))

not_both : (p q : Bool) → (not p && not q) ≡ true → (p ≡ false) × (q ≡ false)
not_both true q h = absurd (true≢false (sym h))
not_both false true h = absurd (true≢false (sym h))
not_both false false h = (refl, refl)

both_not : (p q : Bool) → p ≡ false → q ≡ false → (not p && not q) ≡ true
both_not p q a b = ap (λ c. not c && not q) a ∙ ap not b

cons_nil : {A : Type 0} (x : A) (xs : List A) → x ∷ xs ≡ [] → ⊥
cons_nil x xs h = cc

-- two neighbours change places where one of them is left out
swapped : {A : Type 0} (a b : Bool) (x y : A) (placed others : List A) → placed ≡ cond b (x ∷ others) others → (a ≡ true → b ≡ true → ⊥) → cond a (y ∷ placed) placed ≡ cond b (x ∷ cond a (y ∷ others) others) (cond a (y ∷ others) others)
swapped true true x y placed others e h = absurd (h refl refl)
swapped true false x y placed others e h = ap (λ ws. y ∷ ws) e
swapped false true x y placed others e h = e
swapped false false x y placed others e h = e

module _ {A : Type 0} (less : A → A → Bool) (o : IsStrictWeakOrder less) where
  pub irreflexive : (x : A) → less x x ≡ false
  irreflexive x = no_cycle (less x x) (o.one_way x x)

  pub ties_self : (x : A) → ties less x x ≡ true
  ties_self x = ap (λ b. not b && not b) (irreflexive x)

  pub Rises-from_sorted : (xs : List A) → IsSortedBy less xs → Rises less xs
  Rises-from_sorted xs up = Rises-from_reads less xs (sorted_far less o xs up)

  -- what is less than z does not tie with what is not
  no_tie : (y z w : A) → less y z ≡ true → less w z ≡ false → ties less y w ≡ false
  no_tie y z w l n = no_cycle (ties less y w) (λ t. absurd (true≢false (sym l ∙ o.chain y w z (not_both (less y w) (less w y) t).0 n)))

  none_ties : (y z : A) (zs : List A) → less y z ≡ true → NoneLess less z zs → filter (ties less y) zs ≡ []
  none_ties y z [] l n = refl
  none_ties y z (w ∷ ws) l n = filter_miss (ties less y) w ws (no_tie y z w l n.0) ∙ none_ties y z ws l n.1

  none_ties_all : (y z : A) (zs : List A) → less y z ≡ true → NoneLess less z zs → filter (ties less y) (z ∷ zs) ≡ []
  none_ties_all y z zs l n = filter_miss (ties less y) z zs (no_tie y z z l (irreflexive z)) ∙ none_ties y z zs l n

  has_itself : (y : A) (ys : List A) → filter (ties less y) (y ∷ ys) ≡ y ∷ filter (ties less y) ys
  has_itself y ys = filter_hit (ties less y) y ys (ties_self y)

  -- the least of one list is not less than the least of a list with the same classes
  not_less : (y z : A) (ys zs : List A) → NoneLess less z zs → filter (ties less y) (y ∷ ys) ≡ filter (ties less y) (z ∷ zs) → less y z ≡ false
  not_less y z ys zs n same = no_cycle (less y z) (λ l. absurd (cons_nil y (filter (ties less y) ys) (sym (has_itself y ys) ∙ same ∙ none_ties_all y z zs l n)))

  same_heads : (y z : A) (ys zs : List A) → less y z ≡ false → less z y ≡ false → filter (ties less y) (y ∷ ys) ≡ filter (ties less y) (z ∷ zs) → y ≡ z
  same_heads y z ys zs a b same = (cons_parts y z (filter (ties less y) ys) (filter (ties less y) zs)
      (sym (has_itself y ys) ∙ same ∙ filter_hit (ties less y) z zs (both_not (less y z) (less z y) a b))).0

  same_tails : (x y : A) (ys zs : List A) → filter (ties less x) (y ∷ ys) ≡ filter (ties less x) (y ∷ zs) → filter (ties less x) ys ≡ filter (ties less x) zs
  same_tails x y ys zs same = by_bool (ties less x y)
      (λ t. (cons_parts y y (filter (ties less x) ys) (filter (ties less x) zs) (sym (filter_hit (ties less x) y ys t) ∙ same ∙ filter_hit (ties less x) y zs t)).1)
      (λ f. sym (filter_miss (ties less x) y ys f) ∙ same ∙ filter_miss (ties less x) y zs f)

  -- two lists in order with the same classes are one list
  pub same_in_order : (ys zs : List A) → Rises less ys → Rises less zs → ((x : A) → filter (ties less x) ys ≡ filter (ties less x) zs) → ys ≡ zs
  same_in_order [] [] r s same = refl
  same_in_order [] (z ∷ zs) r s same = absurd (cons_nil z (filter (ties less z) zs) (sym (same z ∙ has_itself z zs)))
  same_in_order (y ∷ ys) [] r s same = absurd (cons_nil y (filter (ties less y) ys) (sym (has_itself y ys) ∙ same y))
  same_in_order (y ∷ ys) (z ∷ zs) r s same =
      let a : less y z ≡ false = not_less y z ys zs s.0 (same y) in
      let b : less z y ≡ false = not_less z y zs ys r.0 (sym (same z)) in
      let e : y ≡ z = same_heads y z ys zs a b (same y) in
      let tails : ys ≡ zs = same_in_order ys zs r.1 s.1 (λ x. same_tails x y ys zs (same x ∙ ap (λ w. filter (ties less x) (w ∷ zs)) (sym e))) in
      λ i. e i ∷ tails i

  NoneLess-placed : (w x : A) (ys : List A) → less x w ≡ false → NoneLess less w ys → NoneLess less w (placed less x ys)
  unfolding placed
  NoneLess-placed w x [] n h = (n, tt)
  NoneLess-placed w x (y ∷ ys) n h = elim (less y x) as (λ b. NoneLess less w (cond b (y ∷ placed less x ys) (x ∷ y ∷ ys))) [
    | true ↦ (h.0, NoneLess-placed w x ys n h.1)
    | false ↦ (n, h)
  ]

  pub NoneLess-chain : (x y : A) (ws : List A) → less y x ≡ false → NoneLess less y ws → NoneLess less x ws
  NoneLess-chain x y [] n h = tt
  NoneLess-chain x y (w ∷ ws) n h = (o.chain w y x h.0 n, NoneLess-chain x y ws n h.1)

  Rises-placed : (x : A) (ys : List A) → Rises less ys → Rises less (placed less x ys)
  unfolding placed
  Rises-placed x [] h = (tt, tt)
  Rises-placed x (y ∷ ys) h = by_bool (less y x)
      (λ t. subst (λ b. Rises less (cond b (y ∷ placed less x ys) (x ∷ y ∷ ys))) (sym t) (NoneLess-placed y x ys (o.one_way y x t) h.0, Rises-placed x ys h.1))
      (λ f. subst (λ b. Rises less (cond b (y ∷ placed less x ys) (x ∷ y ∷ ys))) (sym f) ((f, NoneLess-chain x y ys f h.0), h))

  pub Rises-in_order : (xs : List A) → Rises less (in_order less xs)
  unfolding in_order
  Rises-in_order [] = tt
  Rises-in_order (x ∷ xs) = Rises-placed x (in_order less xs) (Rises-in_order xs)

  -- members of one class are not less than each other
  level : (p x y : A) → less y x ≡ true → ties less p y ≡ true → ties less p x ≡ true → ⊥
  level p x y l a b = true≢false (sym l ∙ o.chain y p x (not_both (less p y) (less y p) a).1 (not_both (less p x) (less x p) b).0)

  filter-placed : (p : A) (x : A) (ys : List A) → filter (ties less p) (placed less x ys) ≡ filter (ties less p) (x ∷ ys)
  unfolding placed
  filter-placed p x [] = refl
  filter-placed p x (y ∷ ys) = by_bool (less y x)
      (λ t. ap (λ b. filter (ties less p) (cond b (y ∷ placed less x ys) (x ∷ y ∷ ys))) t
      ∙ swapped (ties less p y) (ties less p x) x y (filter (ties less p) (placed less x ys)) (filter (ties less p) ys) (filter-placed p x ys) (level p x y t))
      (λ f. ap (λ b. filter (ties less p) (cond b (y ∷ placed less x ys) (x ∷ y ∷ ys))) f)

  pub filter-in_order : (p : A) (xs : List A) → filter (ties less p) (in_order less xs) ≡ filter (ties less p) xs
  unfolding in_order
  filter-in_order p [] = refl
  filter-in_order p (x ∷ xs) = filter-placed p x (in_order less xs) ∙ ap (λ ws. cond (ties less p x) (x ∷ ws) ws) (filter-in_order p xs)

  -- what a stable sort leaves
  pub in_order-from_sort : (xs ys : List A) → IsSortedBy less ys → IsStableBy less xs ys → ys ≡ in_order less xs
  in_order-from_sort xs ys up stable = same_in_order ys (in_order less xs) (Rises-from_sorted ys up) (Rises-in_order xs) (λ x. stable x ∙ sym (filter-in_order x xs))
