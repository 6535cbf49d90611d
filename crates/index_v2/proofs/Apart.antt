-- Lists in which nothing stands twice: they are no longer than what their members are among.
use Rattle.std.proofs.Common.{◌≡◌, ℕ, ◌<◌, ◌≤◌, List, [], ◌∷◌, ◌++◌, length, map, sym, ap, subst, arith, inl, inr}
use Rattle.std.specs.List.{Contains}
use Rattle.std.specs.List.Sorted.{IsStrictlyIncreasing}
use Rattle.std.proofs.lemmas.List.{length-append}
use Rattle.std.proofs.lemmas.List.Elements.{Contains-append_left, Contains-append_right, Contains-append_cases}
use Rattle.base.proofs.Membership.{contains_first, contains_later, member_cases, no_member, of_map}
use Rattle.base.proofs.Rising.{rest_rises}

unfoldable pub AreApart : {A : Type 0} → List A → Type 0
AreApart [] = Unit {0}
AreApart (x ∷ xs) = (Contains xs x → ⊥) × AreApart xs

-- ---- no more than others

record Split {A : Type 0} (ys : List A) (x : A) : Type 0 where
  pub front : List A
  pub back : List A
  pub is : ys ≡ front ++ x ∷ back

split : {A : Type 0} (ys : List A) (x : A) → Contains ys x → Split ys x
split [] x has = absurd (no_member x has)
split (y ∷ ys) x has = elim (member_cases y x ys has) [
  | inl same ↦ record { front = []; back = ys; is = ap (λ z. z ∷ ys) same }
  | inr later ↦ let s = split ys x later in record { front = y ∷ s.front; back = s.back; is = ap (λ zs. y ∷ zs) s.is }
]

pub fewer : {A : Type 0} (xs ys : List A) → AreApart xs → ((x : A) → Contains xs x → Contains ys x) → length xs ≤ length ys
unfolding AreApart
fewer [] ys apart among = omega arith
fewer {A} (x ∷ xs) ys apart among =
    let s = split ys x (among x (contains_first x xs)) in
    let others : (y : A) → Contains xs y → Contains (s.front ++ s.back) y = λ y has.
    elim (Contains-append_cases s.front (x ∷ s.back) y (subst (λ (zs : List A). Contains zs y) s.is (among y (contains_later x y xs has)))) [
      | inl before ↦ Contains-append_left s.front s.back y before
      | inr rest ↦ elim (member_cases x y s.back rest) [
        | inl same ↦ absurd (apart.0 (subst (Contains xs) (sym same) has))
        | inr behind ↦ Contains-append_right s.front s.back y behind
      ]
    ] in
    let less = fewer xs (s.front ++ s.back) apart.1 others in
    omega (arith, less, ap length s.is, length-append s.front (x ∷ s.back), length-append s.front s.back)

-- ---- how such lists are made

pub apart_append : {A : Type 0} (xs ys : List A) → AreApart xs → AreApart ys → ((x : A) → Contains xs x → Contains ys x → ⊥) → AreApart (xs ++ ys)
unfolding AreApart
apart_append [] ys one other none = other
apart_append (x ∷ xs) ys one other none = (
  λ has. elim (Contains-append_cases xs ys x has) [
    | inl here ↦ one.0 here
    | inr there ↦ none x (contains_first x xs) there
  ],
  apart_append xs ys one.1 other (λ y a b. none y (contains_later x y xs a) b),
)

pub apart_map : {A B : Type 0} (f : A → B) → ((x y : A) → f x ≡ f y → x ≡ y) → (xs : List A) → AreApart xs → AreApart (map f xs)
unfolding AreApart
apart_map f tells [] apart = tt
apart_map f tells (x ∷ xs) apart = (
  λ has. let one = of_map f xs (f x) has in apart.0 (subst (Contains xs) (tells one.0 x one.2) one.1),
  apart_map f tells xs apart.1,
)

-- a number that rises is below what stands behind it
pub above_first : (n : ℕ) (numbers : List ℕ) (m : ℕ) → IsStrictlyIncreasing (n ∷ numbers) → Contains numbers m → n < m
above_first n [] m rise among = absurd (no_member m among)
above_first n (x ∷ numbers) m rise among =
    let next : n < x = rise 0 (omega arith) in
    elim (member_cases x m numbers among) [
      | inl same ↦ subst (λ (k : ℕ). n < k) same next
      | inr later ↦ let far = above_first x numbers m (rest_rises n (x ∷ numbers) rise) later in omega arith
    ]

pub rising_apart : (xs : List ℕ) → IsStrictlyIncreasing xs → AreApart xs
unfolding AreApart
rising_apart [] rise = tt
rising_apart (x ∷ xs) rise = (λ has. let less = above_first x xs x rise has in omega (arith, less), rising_apart xs (rest_rises x xs rise))
