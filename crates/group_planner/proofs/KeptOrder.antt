-- A filter of a list that is put in order.
use Rattle.std.proofs.Common.{◌≡◌, Bool, true, false, List, [], ◌∷◌, sym, ap, ◌∙◌, cond}
use Rattle.std.specs.Cmp.{IsStrictWeakOrder}
use Rattle.std.specs.List.{filter}
use Rattle.std.specs.List.Sorted.{ties}
use Rattle.base.specs.Ordered.{in_order}
use Rattle.base.proofs.StableSorts.{NoneLess, Rises, Rises-in_order, filter-in_order, same_in_order}
use Rattle.base.proofs.Lists.{filter_twice}

none_less_kept : {A : Type 0} (less : A → A → Bool) (keeps : A → Bool) (x : A) (ys : List A) → NoneLess less x ys → NoneLess less x (filter keeps ys)
none_less_kept less keeps x [] none = tt
none_less_kept less keeps x (y ∷ ys) none = elim (keeps y) as (λ b. NoneLess less x (cond b (y ∷ filter keeps ys) (filter keeps ys))) [
  | true ↦ (none.0, none_less_kept less keeps x ys none.1)
  | false ↦ none_less_kept less keeps x ys none.1
]

rises_kept : {A : Type 0} (less : A → A → Bool) (keeps : A → Bool) (ys : List A) → Rises less ys → Rises less (filter keeps ys)
rises_kept less keeps [] up = tt
rises_kept less keeps (y ∷ ys) up = elim (keeps y) as (λ b. Rises less (cond b (y ∷ filter keeps ys) (filter keeps ys))) [
  | true ↦ (none_less_kept less keeps y ys up.0, rises_kept less keeps ys up.1)
  | false ↦ rises_kept less keeps ys up.1
]

both_ways : {A : Type 0} (p q : A → Bool) (a b : Bool) (y : A) (ys : List A) → p y ≡ a → q y ≡ b → filter p (filter q ys) ≡ filter q (filter p ys)
    → filter p (cond b (y ∷ filter q ys) (filter q ys)) ≡ filter q (cond a (y ∷ filter p ys) (filter p ys))
both_ways p q true true y ys e f same = ap (λ c. cond c (y ∷ filter p (filter q ys)) (filter p (filter q ys))) e ∙ ap (λ l. y ∷ l) same
    ∙ sym (ap (λ c. cond c (y ∷ filter q (filter p ys)) (filter q (filter p ys))) f)
both_ways p q true false y ys e f same = same ∙ sym (ap (λ c. cond c (y ∷ filter q (filter p ys)) (filter q (filter p ys))) f)
both_ways p q false true y ys e f same = ap (λ c. cond c (y ∷ filter p (filter q ys)) (filter p (filter q ys))) e ∙ same
both_ways p q false false y ys e f same = same

-- what is kept of a list in order is what is kept, in order
pub kept_in_order : {A : Type 0} (less : A → A → Bool) (o : IsStrictWeakOrder less) (keeps : A → Bool) (xs : List A) → filter keeps (in_order less xs) ≡ in_order less (filter keeps xs)
kept_in_order less o keeps xs = same_in_order less o (filter keeps (in_order less xs)) (in_order less (filter keeps xs))
    (rises_kept less keeps (in_order less xs) (Rises-in_order less o xs)) (Rises-in_order less o (filter keeps xs))
    (λ x. filter_twice (ties less x) keeps (in_order less xs) ∙ ap (filter keeps) (filter-in_order less o x xs)
    ∙ filter_twice keeps (ties less x) xs ∙ sym (filter-in_order less o x (filter keeps xs)))
