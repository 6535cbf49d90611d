-- The last member of a list, and what holds of all members of both parts.
use Rattle.std.proofs.Common.{◌≡◌, ◌-◌, List, [], ◌∷◌, ◌++◌, length, Some, refl, ap, ◌∙◌, length-append, arith}
use Rattle.std.specs.Prelude.{slice_get}
use Rattle.std.specs.List.{AllByRecursion}
use Rattle.base.proofs.Lists.{cons_parts}

at_length : {A : Type 0} (front : List A) (last : A) → slice_get (front ++ last ∷ []) (length front) ≡ Some last
at_length [] last = refl
at_length (x ∷ front) last = at_length front last

pub last_at : {A : Type 0} (front : List A) (last : A) → slice_get (front ++ last ∷ []) (length (front ++ last ∷ []) - 1) ≡ Some last
last_at {A} front last =
    let place : length (front ++ last ∷ []) - 1 ≡ length front = omega (arith, length-append front (last ∷ [])) in
    ap (slice_get (front ++ last ∷ [])) place ∙ at_length front last

pub pushed_parts : {A : Type 0} (xs ys : List A) (x y : A) → xs ++ x ∷ [] ≡ ys ++ y ∷ [] → (xs ≡ ys) × (x ≡ y)
pushed_parts [] [] x y e = (refl, cc)
pushed_parts [] (w ∷ ys) x y e = absurd (omega (arith, ap length e, length-append ys (y ∷ [])))
pushed_parts (z ∷ xs) [] x y e = absurd (omega (arith, ap length e, length-append xs (x ∷ [])))
pushed_parts {A} (z ∷ xs) (w ∷ ys) x y e =
    let parts = cons_parts z w (xs ++ x ∷ []) (ys ++ y ∷ []) e in
    let others = pushed_parts xs ys x y parts.1 in
    (ap (λ (v : A). v ∷ xs) parts.0 ∙ ap (λ (l : List A). w ∷ l) others.0, others.1)

pub all_left : {A : Type 0} (P : A → Type 0) (xs ys : List A) → AllByRecursion P (xs ++ ys) → AllByRecursion P xs
all_left P [] ys all = tt
all_left P (x ∷ xs) ys all = (all.0, all_left P xs ys all.1)
