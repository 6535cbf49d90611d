-- The least place of several, by what holds there and before.
use Rattle.std.proofs.Common.{◌≡◌, ℕ, zero, suc, ◌+◌, ◌<◌, Bool, true, false, cond, min, List, [], ◌∷◌, Option, Some, None, refl, sym, ap, subst, arith, ◌⊎◌, inl, inr}
use Rattle.std.specs.Prelude.{slice_get}
use Rattle.std.specs.declared.cmp.Ordering.{Ordering}
use Rattle.std.specs.declared.cmp.Ordering.TheVariants.{Less, Equal, Greater}
use Rattle.std.specs.List.{Contains}
use Rattle.std.proofs.lemmas.Option.{same_Some}
use Rattle.std.proofs.lemmas.Bool.{cases_lt, cases_order}
use Rattle.base.proofs.Membership.{contains_first, contains_later, contains_place, place_of_member}
use Rattle.index_v2.specs.WholeReading.{earlier_place, by_order}

-- the least place of which something holds; it holds of none where there is none
abbrev pub IsLeast : (ℕ → Type 0) → Option ℕ → Type 0
IsLeast P None = (k : ℕ) → P k → ⊥
IsLeast P (Some place) = P place × ((k : ℕ) → k < place → P k → ⊥)

pub least_as : (P Q : ℕ → Type 0) (o : Option ℕ) → ((k : ℕ) → P k → Q k) → ((k : ℕ) → (P k → ⊥) → Q k → ⊥) → IsLeast P o → IsLeast Q o
least_as P Q None to back least = λ k. back k (least k)
least_as P Q (Some place) to back least = (to place least.0, λ k lt. back k (least.1 k lt))

-- a place of which it holds, and of none before, is the least
pub least_is : (P : ℕ → Type 0) (o : Option ℕ) (place : ℕ) → IsLeast P o → P place → ((k : ℕ) → k < place → P k → ⊥) → o ≡ Some place
least_is P None place least here first = absurd (least place here)
least_is P (Some k) place least here first = elim (cases_order k place) [
  | inl same ↦ ap Some same
  | inr apart ↦ elim apart [
    | inl less ↦ absurd (first k less least.0)
    | inr more ↦ absurd (least.1 place more here)
  ]
]

-- ---- the earlier of two

neither : (P Q : ℕ → Type 0) (k : ℕ) → (P k → ⊥) → (Q k → ⊥) → P k ⊎ Q k → ⊥
neither P Q k p q (inl h) = p h
neither P Q k p q (inr h) = q h

least_of_two : (P Q : ℕ → Type 0) (one other : ℕ) → IsLeast P (Some one) → IsLeast Q (Some other) → IsLeast (λ k. P k ⊎ Q k) (Some (min one other))
least_of_two P Q one other p q =
    elim (cases_lt one other) [
      | inl lt ↦
          let same : one ≡ min one other = omega arith in
          subst (λ m. IsLeast (λ k. P k ⊎ Q k) (Some m)) same (inl p.0, λ k less. neither P Q k (p.1 k less) (q.1 k (omega arith)))
      | inr ge ↦
          let same : other ≡ min one other = omega arith in
          subst (λ m. IsLeast (λ k. P k ⊎ Q k) (Some m)) same (inr q.0, λ k less. neither P Q k (p.1 k (omega arith)) (q.1 k less))
    ]

pub earlier_least : (P Q : ℕ → Type 0) (a b : Option ℕ) → IsLeast P a → IsLeast Q b → IsLeast (λ k. P k ⊎ Q k) (earlier_place a b)
earlier_least P Q None None p q = λ k. neither P Q k (p k) (q k)
earlier_least P Q None (Some other) p q = (inr q.0, λ k lt. neither P Q k (p k) (q.1 k lt))
earlier_least P Q (Some one) None p q = (inl p.0, λ k lt. neither P Q k (p.1 k lt) (q k))
earlier_least P Q (Some one) (Some other) p q = least_of_two P Q _ _ p q

-- ---- a search that began at a place counts from there

abbrev pub IsLeastFrom : ℕ → (ℕ → Type 0) → Option ℕ → Type 0
IsLeastFrom from P None = (k : ℕ) → P k → ⊥
IsLeastFrom from P (Some place) = (j : ℕ) × (place ≡ from + j) × P j × ((k : ℕ) → k < j → P k → ⊥)

pub least_from : (P : ℕ → Type 0) (o : Option ℕ) → IsLeastFrom 0 P o → IsLeast P o
least_from P None least = least
least_from P (Some place) least =
    let is = least.1 in
    let same : least.0 ≡ place = omega arith in
    (subst P same least.2, λ k lt. least.3 k (omega arith))

pub from_here : (from : ℕ) (P : ℕ → Type 0) → P 0 → IsLeastFrom from P (Some from)
from_here _ P here = (0, omega arith, here, λ k lt. absurd (omega arith))

none_next : (P Q : ℕ → Type 0) → (P 0 → ⊥) → ((k : ℕ) → P (suc k) → Q k) → ((k : ℕ) → Q k → ⊥) → (k : ℕ) → P k → ⊥
none_next P Q first down none zero h = first h
none_next P Q first down none (suc k) h = none k (down k h)

none_before : (P Q : ℕ → Type 0) → (P 0 → ⊥) → ((k : ℕ) → P (suc k) → Q k) → (j : ℕ) → ((k : ℕ) → k < j → Q k → ⊥) → (k : ℕ) → k < suc j → P k → ⊥
none_before P Q first down j none zero lt h = first h
none_before P Q first down j none (suc k) lt h = none k (omega arith) (down k h)

pub from_next : (from : ℕ) (P Q : ℕ → Type 0) (o : Option ℕ) → (P 0 → ⊥) → ((k : ℕ) → Q k → P (suc k)) → ((k : ℕ) → P (suc k) → Q k) → IsLeastFrom (from + 1) Q o → IsLeastFrom from P o
from_next _ P Q None first up down least = none_next P Q first down least
from_next _ P Q (Some place) first up down least =
    let is = least.1 in
    (suc least.0, omega arith, up least.0 least.2, none_before P Q first down _ least.3)

pub by_test_from : (from : ℕ) (P : ℕ → Type 0) (b : Bool) (next : Option ℕ) → (b ≡ true → IsLeastFrom from P next) → (b ≡ false → P 0) → IsLeastFrom from P (cond b next (Some from))
by_test_from _ P true _ f g = f refl
by_test_from _ P false _ f g = from_here _ P (g refl)

pub by_order_from : (from : ℕ) (P : ℕ → Type 0) (o : Ordering) (next here : Option ℕ) → (o ≡ Less → IsLeastFrom from P next) → (o ≡ Equal → IsLeastFrom from P here) → (o ≡ Greater → P 0) → IsLeastFrom from P (by_order o next here (Some from))
by_order_from _ P Less _ _ f g h = f refl
by_order_from _ P Equal _ _ f g h = g refl
by_order_from _ P Greater _ _ f g h = from_here _ P (h refl)

-- ---- a member of a list of which something holds

abbrev pub HasSuch : {A : Type 0} → (A → Type 0) → List A → Type 0
HasSuch {A} P xs = (x : A) × Contains xs x × P x

first_or_other : {A : Type 0} (P : A → Type 0) (x : A) (xs : List A) (place : ℕ) (y : A) → slice_get (x ∷ xs) place ≡ Some y → P y → P x ⊎ HasSuch P xs
first_or_other P x _ zero y at p = inl (subst P (sym (same_Some x y at)) p)
first_or_other P x _ (suc place) y at p = inr (y, contains_place _ _ y at, p)

such_split : {A : Type 0} (P : A → Type 0) (x : A) (xs : List A) → HasSuch P (x ∷ xs) → P x ⊎ HasSuch P xs
such_split P x xs h = let at = place_of_member (x ∷ xs) _ h.1 in first_or_other P x _ at.0 _ at.1 h.2

such_joined : {A : Type 0} (P : A → Type 0) (x : A) (xs : List A) → P x ⊎ HasSuch P xs → HasSuch P (x ∷ xs)
such_joined P x _ (inl p) = (x, contains_first x _, p)
such_joined P x _ (inr h) = (h.0, contains_later x _ _ h.1, h.2)

-- the least place for a list's members is the earlier of that for the first and that for the others
pub such_least : {A : Type 0} (P : A → ℕ → Type 0) (x : A) (xs : List A) (a b : Option ℕ) → IsLeast (P x) a → IsLeast (λ k. HasSuch (λ y. P y k) xs) b → IsLeast (λ k. HasSuch (λ y. P y k) (x ∷ xs)) (earlier_place a b)
such_least P x xs a b p q =
    least_as (λ k. P x k ⊎ HasSuch (λ y. P y k) xs) _ _
    (λ k. such_joined (λ y. P y k) x xs)
    (λ k none h. none (such_split _ x _ h))
    (earlier_least _ _ a b p q)

pub such_none : {A : Type 0} (P : A → ℕ → Type 0) → IsLeast (λ k. HasSuch (λ y. P y k) []) None
such_none P = λ k h. absurd (omega arith)
