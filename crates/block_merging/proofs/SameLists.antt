-- Lists that stand for the same member by member are the same.
use Rattle.std.proofs.Common.{◌≡◌, Bool, true, List, [], ◌∷◌, ◌++◌, refl, sym, ap, subst, ◌∙◌, inl, inr}
use Rattle.std.specs.Prelude.{Contains}
use Rattle.std.specs.List.{AllZip, filter}
use Rattle.std.proofs.lemmas.Bool.{true≢false}
use Rattle.base.proofs.Bools.{by_bool}
use Rattle.base.proofs.Lists.{filter_hit, filter_miss}
use Rattle.base.proofs.Membership.{no_member, contains_first, contains_later, member_cases}

module _ {A B : Type 0} (R : A → B → Type 0) where
  pub each_once : ((x : A) (y z : B) → R x y → R x z → y ≡ z) → (xs : List A) (ys zs : List B) → AllZip R xs ys → AllZip R xs zs → ys ≡ zs
  each_once once [] [] [] is too = refl
  each_once once [] (y ∷ ys) zs is too = absurd is
  each_once once [] [] (z ∷ zs) is too = absurd too
  each_once once (x ∷ xs) [] zs is too = absurd is
  each_once once (x ∷ xs) (y ∷ ys) [] is too = absurd too
  each_once once (x ∷ xs) (y ∷ ys) (z ∷ zs) is too = ap (λ (b : B). b ∷ ys) (once x y z is.0 too.0) ∙ ap (λ (l : List B). z ∷ l) (each_once once xs ys zs is.1 too.1)

  -- two fronts, and what stands for each
  pub split_zip : (xs more : List A) (ys : List B) → AllZip R (xs ++ more) ys → (front : List B) × (back : List B) × AllZip R xs front × AllZip R more back × (ys ≡ front ++ back)
  split_zip [] more ys each = ([], ys, tt, each, refl)
  split_zip (x ∷ xs) more [] each = absurd each
  split_zip (x ∷ xs) more (y ∷ ys) each = let w = split_zip xs more ys each.1 in (y ∷ w.0, w.1, (each.0, w.2), w.3, ap (λ (l : List B). y ∷ l) w.4)

  -- a member on the other side
  pub zip_back : (xs : List A) (ys : List B) (y : B) → AllZip R xs ys → Contains ys y → (x : A) × Contains xs x × R x y
  zip_back [] [] y each among = absurd (no_member y among)
  zip_back [] (z ∷ ys) y each among = absurd each
  zip_back (x ∷ xs) [] y each among = absurd each
  zip_back (x ∷ xs) (z ∷ ys) y each among = elim (member_cases z y ys among) [
    | inl is ↦ (x, contains_first x xs, subst (R x) is each.0)
    | inr later ↦ let w = zip_back xs ys y each.1 later in (w.0, contains_later x w.0 xs w.1, w.2)
  ]

  pub zip_member : (xs : List A) (ys : List B) (x : A) → AllZip R xs ys → Contains xs x → (y : B) × Contains ys y × R x y
  zip_member [] ys x each among = absurd (no_member x among)
  zip_member (z ∷ xs) [] x each among = absurd each
  zip_member (z ∷ xs) (y ∷ ys) x each among = elim (member_cases z x xs among) [
    | inl is ↦ (y, contains_first y ys, subst (λ w. R w y) is each.0)
    | inr later ↦ let w = zip_member xs ys x each.1 later in (w.0, contains_later y w.0 ys w.1, w.2)
  ]

-- tests that agree on the members
pub filter_same : {A : Type 0} (p q : A → Bool) (xs : List A) → ((x : A) → Contains xs x → p x ≡ q x) → filter p xs ≡ filter q xs
filter_same {A} p q [] same = refl
filter_same {A} p q (x ∷ xs) same =
    let others : filter p xs ≡ filter q xs = filter_same p q xs (λ y among. same y (contains_later x y xs among)) in
    by_bool (p x)
    (λ t. filter_hit p x xs t ∙ ap (λ (l : List A). x ∷ l) others ∙ sym (filter_hit q x xs (sym (same x (contains_first x xs)) ∙ t)))
    (λ f. filter_miss p x xs f ∙ others ∙ sym (filter_miss q x xs (sym (same x (contains_first x xs)) ∙ f)))

-- members that pass one test pass the other
pub filter_within : {A : Type 0} (p q : A → Bool) (xs : List A) → ((x : A) → Contains xs x → p x ≡ true → q x ≡ true) → filter p (filter q xs) ≡ filter p xs
filter_within {A} p q [] only = refl
filter_within {A} p q (x ∷ xs) only =
    let others : filter p (filter q xs) ≡ filter p xs = filter_within p q xs (λ y among. only y (contains_later x y xs among)) in
    by_bool (q x)
    (λ t. ap (filter p) (filter_hit q x xs t) ∙ by_bool (p x)
    (λ u. filter_hit p x (filter q xs) u ∙ ap (λ (l : List A). x ∷ l) others ∙ sym (filter_hit p x xs u))
    (λ u. filter_miss p x (filter q xs) u ∙ others ∙ sym (filter_miss p x xs u)))
    (λ f. ap (filter p) (filter_miss q x xs f) ∙ others ∙ sym (filter_miss p x xs (by_bool (p x) (λ u. absurd (true≢false (sym (only x (contains_first x xs) u) ∙ f))) (λ u. u))))
