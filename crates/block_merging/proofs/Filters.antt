-- A filter of a list that was put in order, and a part that is put back into the order in which it stood.
use Rattle.std.proofs.Common.{◌≡◌, Bool, true, false, cond, not, ◌&&◌, List, [], ◌∷◌, refl, sym, ap, ◌∙◌}
use Rattle.std.specs.Cmp.{IsStrictWeakOrder}
use Rattle.std.specs.List.{filter, AllByRecursion}
use Rattle.std.specs.List.Sorted.{ties}
use Rattle.std.proofs.lemmas.Bool.{true≢false}
use Rattle.base.specs.Ordered.{placed, in_order}
use Rattle.base.proofs.Bools.{by_bool}
use Rattle.base.proofs.StableSorts.{NoneLess, Rises, Rises-in_order, filter-in_order, same_in_order, NoneLess-chain}
use Rattle.base.proofs.Lists.{filter_hit, filter_miss}

module _ {A : Type 0} (less : A → A → Bool) (o : IsStrictWeakOrder less) where
  none-filter : (q : A → Bool) (x : A) (ys : List A) → NoneLess less x ys → NoneLess less x (filter q ys)
  none-filter q x [] n = tt
  none-filter q x (y ∷ ys) n = elim (q y) as (λ b. NoneLess less x (cond b (y ∷ filter q ys) (filter q ys))) [
    | true ↦ (n.0, none-filter q x ys n.1)
    | false ↦ none-filter q x ys n.1
  ]

  pub rises-filter : (q : A → Bool) (ys : List A) → Rises less ys → Rises less (filter q ys)
  rises-filter q [] r = tt
  rises-filter q (y ∷ ys) r = elim (q y) as (λ b. Rises less (cond b (y ∷ filter q ys) (filter q ys))) [
    | true ↦ (none-filter q y ys r.0, rises-filter q ys r.1)
    | false ↦ rises-filter q ys r.1
  ]

  placed-none : (x : A) (ys : List A) → NoneLess less x ys → placed less x ys ≡ x ∷ ys
  unfolding placed
  placed-none x [] n = refl
  placed-none x (y ∷ ys) n = ap (λ b. cond b (y ∷ placed less x ys) (x ∷ y ∷ ys)) n.0

  placed_here : (x y : A) (ys : List A) → less y x ≡ false → placed less x (y ∷ ys) ≡ x ∷ y ∷ ys
  unfolding placed
  placed_here x y ys f = ap (λ b. cond b (y ∷ placed less x ys) (x ∷ y ∷ ys)) f

  placed_later : (x y : A) (ys : List A) → less y x ≡ true → placed less x (y ∷ ys) ≡ y ∷ placed less x ys
  unfolding placed
  placed_later x y ys t = ap (λ b. cond b (y ∷ placed less x ys) (x ∷ y ∷ ys)) t

  filter_kept : (q : A → Bool) (x : A) (ys : List A) → Rises less ys → q x ≡ true → filter q (placed less x ys) ≡ placed less x (filter q ys)
  unfolding placed
  filter_kept q x [] r k = filter_hit q x [] k
  filter_kept q x (y ∷ ys) r k = by_bool (less y x)
      (λ t. ap (filter q) (placed_later x y ys t) ∙ by_bool (q y)
      (λ u. filter_hit q y (placed less x ys) u ∙ ap (λ l. y ∷ l) (filter_kept q x ys r.1 k) ∙ sym (ap (placed less x) (filter_hit q y ys u) ∙ placed_later x y (filter q ys) t))
      (λ u. filter_miss q y (placed less x ys) u ∙ filter_kept q x ys r.1 k ∙ sym (ap (placed less x) (filter_miss q y ys u))))
      (λ f. ap (filter q) (placed_here x y ys f) ∙ filter_hit q x (y ∷ ys) k
      ∙ sym (placed-none x (filter q (y ∷ ys)) (none-filter q x (y ∷ ys) (f, NoneLess-chain less o x y ys f r.0))))

  filter_lost : (q : A → Bool) (x : A) (ys : List A) → q x ≡ false → filter q (placed less x ys) ≡ filter q ys
  unfolding placed
  filter_lost q x [] k = filter_miss q x [] k
  filter_lost q x (y ∷ ys) k = by_bool (less y x)
      (λ t. ap (filter q) (placed_later x y ys t) ∙ by_bool (q y)
      (λ u. filter_hit q y (placed less x ys) u ∙ ap (λ l. y ∷ l) (filter_lost q x ys k) ∙ sym (filter_hit q y ys u))
      (λ u. filter_miss q y (placed less x ys) u ∙ filter_lost q x ys k ∙ sym (filter_miss q y ys u)))
      (λ f. ap (filter q) (placed_here x y ys f) ∙ filter_miss q x (y ∷ ys) k)

  -- a part of a list that was put in order is the part, put in order
  pub filter_in_order : (q : A → Bool) (xs : List A) → filter q (in_order less xs) ≡ in_order less (filter q xs)
  unfolding in_order
  filter_in_order q [] = refl
  filter_in_order q (x ∷ xs) = by_bool (q x)
      (λ t. filter_kept q x (in_order less xs) (Rises-in_order less o xs) t ∙ ap (placed less x) (filter_in_order q xs) ∙ sym (ap (in_order less) (filter_hit q x xs t)))
      (λ f. filter_lost q x (in_order less xs) f ∙ filter_in_order q xs ∙ sym (ap (in_order less) (filter_miss q x xs f)))

-- each member is less than those behind it
abbrev pub Ascends : {A : Type 0} → (A → A → Bool) → List A → Type 0
Ascends low [] = Unit {0}
Ascends low (x ∷ xs) = AllByRecursion (λ y. low x y ≡ true) xs × Ascends low xs

module _ {A : Type 0} (less low : A → A → Bool) (o : IsStrictWeakOrder less) (p : IsStrictWeakOrder low) where
  ascend_rise : (x : A) (xs : List A) → AllByRecursion (λ y. low x y ≡ true) xs → NoneLess low x xs
  ascend_rise x [] all = tt
  ascend_rise x (y ∷ ys) all = (p.one_way x y all.0, ascend_rise x ys all.1)

  rises-ascends : (xs : List A) → Ascends low xs → Rises low xs
  rises-ascends [] up = tt
  rises-ascends (x ∷ xs) up = (ascend_rise x xs up.0, rises-ascends xs up.1)

  all_filter : (P : A → Type 0) (q : A → Bool) (xs : List A) → AllByRecursion P xs → AllByRecursion P (filter q xs)
  all_filter P q [] all = tt
  all_filter P q (x ∷ xs) all = elim (q x) as (λ b. AllByRecursion P (cond b (x ∷ filter q xs) (filter q xs))) [
    | true ↦ (all.0, all_filter P q xs all.1)
    | false ↦ all_filter P q xs all.1
  ]

  pub ascends-filter : (q : A → Bool) (xs : List A) → Ascends low xs → Ascends low (filter q xs)
  ascends-filter q [] up = tt
  ascends-filter q (x ∷ xs) up = elim (q x) as (λ b. Ascends low (cond b (x ∷ filter q xs) (filter q xs))) [
    | true ↦ (all_filter (λ y. low x y ≡ true) q xs up.0, ascends-filter q xs up.1)
    | false ↦ ascends-filter q xs up.1
  ]

  not_less : (a b : Bool) → (not a && not b) ≡ true → b ≡ false
  not_less true b t = absurd (true≢false (sym t))
  not_less false true t = absurd (true≢false (sym t))
  not_less false false t = refl

  no_tie : (a b : Bool) → a ≡ true → (not a && not b) ≡ false
  no_tie true b t = refl
  no_tie false b t = absurd (true≢false (sym t))

  lower : (x y z : A) → ties low x y ≡ true → low y z ≡ true → low x z ≡ true
  lower x y z t l = by_bool (low x z) (λ e. e) (λ f. absurd (true≢false (sym l ∙ p.chain y x z (not_less (low x y) (low y x) t) f)))

  -- behind a member no other ties with what ties with it
  no_other : (x y : A) (ys : List A) → ties low x y ≡ true → AllByRecursion (λ z. low y z ≡ true) ys → filter (ties low x) ys ≡ []
  no_other x y [] t all = refl
  no_other x y (z ∷ zs) t all = filter_miss (ties low x) z zs (no_tie (low x z) (low z x) (lower x y z t all.0)) ∙ no_other x y zs t all.1

  class_in_order : (x : A) (xs : List A) → Ascends low xs → in_order less (filter (ties low x) xs) ≡ filter (ties low x) xs
  unfolding in_order placed
  class_in_order x [] up = refl
  class_in_order x (y ∷ ys) up = by_bool (ties low x y)
      (λ t. let one : filter (ties low x) (y ∷ ys) ≡ y ∷ [] = filter_hit (ties low x) y ys t ∙ ap (λ l. y ∷ l) (no_other x y ys t up.0) in
      ap (in_order less) one ∙ sym one)
      (λ f. ap (in_order less) (filter_miss (ties low x) y ys f) ∙ class_in_order x ys up.1 ∙ sym (filter_miss (ties low x) y ys f))

  -- an ascending list that was put in another order is put back
  pub put_back : (xs : List A) → Ascends low xs → in_order low (in_order less xs) ≡ xs
  put_back xs up = same_in_order low p (in_order low (in_order less xs)) xs (Rises-in_order low p (in_order less xs)) (rises-ascends xs up)
      (λ x. filter-in_order low p x (in_order less xs) ∙ filter_in_order less o (ties low x) xs ∙ class_in_order x xs up)
