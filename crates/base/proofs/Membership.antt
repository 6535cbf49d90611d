-- Members of lists that were joined, mapped, flattened, filtered and put in order, and tests of members.
use Rattle.std.proofs.Common.{◌≡◌, ◌≢◌, ◌⊎◌, inl, inr, ℕ, zero, suc, Bool, true, false, List, [], ◌∷◌, map, Some, refl, sym, ap, ◌∙◌, subst, arith}
use Rattle.std.specs.Prelude.{slice_get}
use Rattle.std.specs.List.{Contains, All, AllByRecursion, filter, find, flat_map, list_any, list_all}
use Rattle.std.proofs.lemmas.Bool.{cases_Bool, and_parts}
use Rattle.std.proofs.lemmas.Option.{slice_get_within, get_or_from_slice_get, slice_get-get_or}
use Rattle.std.proofs.lemmas.List.Elements.{All-contains, All-from_recursion, Contains-append_left, Contains-append_right, Contains-append_cases, filter_passes}
use Rattle.std.proofs.lemmas.List.Folds.{Any-from_list_any, list_any_at, find_at}
use Rattle.base.specs.Ordered.{placed, in_order}
use Rattle.base.proofs.Lists.{filter_hit, filter_miss}

-- ---- the first member and the others

pub contains_first : {A : Type 0} (x : A) (xs : List A) → Contains (x ∷ xs) x
contains_first x xs = (0, omega arith, refl)

pub contains_later : {A : Type 0} (y x : A) (xs : List A) → Contains xs x → Contains (y ∷ xs) x
contains_later y x xs c = (suc c.0, omega (arith, c.1), c.2)

pub no_member : {A : Type 0} (x : A) → Contains [] x → ⊥
no_member x (k, below, at) = absurd (omega (arith, below))

-- a member is the first one or one of the others
pub member_cases : {A : Type 0} (y x : A) (xs : List A) → Contains (y ∷ xs) x → (y ≡ x) ⊎ Contains xs x
member_cases y x xs (zero, below, at) = inl at
member_cases y x xs (suc k, below, at) = inr (k, omega (arith, below), at)

pub some_member : {A : Type 0} (xs : List A) → xs ≢ [] → (x : A) × Contains xs x
some_member [] some = absurd (some refl)
some_member (x ∷ xs) some = (x, contains_first x xs)

pub only_member : {A : Type 0} (y x : A) → Contains (y ∷ []) x → y ≡ x
only_member y x among = elim (member_cases y x [] among) [ inl same ↦ same | inr later ↦ absurd (no_member x later) ]

-- a member stands at a place, and what stands at a place is a member
pub contains_place : {A : Type 0} (xs : List A) (place : ℕ) (x : A) → slice_get xs place ≡ Some x → Contains xs x
contains_place xs place x at = (place, slice_get_within xs place x at, get_or_from_slice_get xs place x x at)

pub place_of_member : {A : Type 0} (xs : List A) (x : A) → Contains xs x → (place : ℕ) × (slice_get xs place ≡ Some x)
place_of_member xs x (place, below, at) = (place, slice_get-get_or xs place x below ∙ ap Some at)

-- what is found is a member
pub found_among : {A : Type 0} (p : A → Bool) (xs : List A) (x : A) → find p xs ≡ Some x → Contains xs x
found_among p xs x e = contains_place xs _ x (sym (find_at p xs) ∙ e)

-- where every member passes, and where none does
pub filter_whole : {A : Type 0} (p : A → Bool) (xs : List A) → ((x : A) → Contains xs x → p x ≡ true) → filter p xs ≡ xs
filter_whole p [] all = refl
filter_whole p (x ∷ xs) all = filter_hit p x xs (all x (contains_first x xs)) ∙ ap (λ l. x ∷ l) (filter_whole p xs (λ y m. all y (contains_later x y xs m)))

pub filter_nothing : {A : Type 0} (p : A → Bool) (xs : List A) → ((x : A) → Contains xs x → p x ≡ false) → filter p xs ≡ []
filter_nothing p [] all = refl
filter_nothing p (x ∷ xs) all = filter_miss p x xs (all x (contains_first x xs)) ∙ filter_nothing p xs (λ y m. all y (contains_later x y xs m))

-- ---- what holds of each member

pub each_member : {A : Type 0} (P : A → Type 0) (xs : List A) (x : A) → AllByRecursion P xs → Contains xs x → P x
each_member P xs x all among = All-contains P xs x (All-from_recursion P xs all) among

pub all_members : {A : Type 0} (P : A → Type 0) (xs : List A) → ((x : A) → Contains xs x → P x) → AllByRecursion P xs
all_members P [] each = tt
all_members P (x ∷ xs) each = (each x (contains_first x xs), all_members P xs (λ y among. each y (contains_later x y xs among)))

-- what stands at a place
pub All-place : {A : Type 0} (P : A → Type 0) (xs : List A) (place : ℕ) (x : A) → All P xs → slice_get xs place ≡ Some x → P x
All-place P xs place x all at = All-contains P xs x all (contains_place xs place x at)

-- ---- tests

-- some member passes, and a member that passes
pub member_of_any : {A : Type 0} (p : A → Bool) (xs : List A) → list_any p xs ≡ true → (x : A) × Contains xs x × (p x ≡ true)
member_of_any p xs e = let any = Any-from_list_any p xs e in (any.1, (any.0, any.2, any.3), any.4)

pub any_of_member : {A : Type 0} (p : A → Bool) (xs : List A) (x : A) → Contains xs x → p x ≡ true → list_any p xs ≡ true
any_of_member p xs x (k, below, at) test = list_any_at p xs k x below (ap p at ∙ test)

pub all_at_member : {A : Type 0} (p : A → Bool) (xs : List A) (x : A) → list_all p xs ≡ true → Contains xs x → p x ≡ true
all_at_member p [] x e among = absurd (no_member x among)
all_at_member p (y ∷ ys) x e among = let parts = and_parts (p y) (list_all p ys) e in
    elim (member_cases y x ys among) [ inl same ↦ ap p (sym same) ∙ parts.0 | inr later ↦ all_at_member p ys x parts.1 later ]

pub all_of_members : {A : Type 0} (p : A → Bool) (xs : List A) → ((x : A) → Contains xs x → p x ≡ true) → list_all p xs ≡ true
all_of_members p [] each = refl
all_of_members p (y ∷ ys) each = rw (each y (contains_first y ys), all_of_members p ys (λ x among. each x (contains_later y x ys among))) refl

-- ---- filters

pub member_passes : {A : Type 0} (p : A → Bool) (xs : List A) (x : A) → Contains (filter p xs) x → p x ≡ true
member_passes {A} p xs x among = All-contains (λ (y : A). p y ≡ true) (filter p xs) x (filter_passes p xs) among

pub of_filter : {A : Type 0} (p : A → Bool) (xs : List A) (x : A) → Contains (filter p xs) x → Contains xs x
of_filter p [] x among = among
of_filter p (y ∷ xs) x among = elim (cases_Bool (p y)) [
  | inl test ↦ elim (member_cases y x (filter p xs) (subst (λ l. Contains l x) (filter_hit p y xs test) among)) [
    | inl same ↦ subst (Contains (y ∷ xs)) same (contains_first y xs)
    | inr later ↦ contains_later y x xs (of_filter p xs x later)
  ]
  | inr test ↦ contains_later y x xs (of_filter p xs x (subst (λ l. Contains l x) (filter_miss p y xs test) among))
]

pub into_filter : {A : Type 0} (p : A → Bool) (xs : List A) (x : A) → Contains xs x → p x ≡ true → Contains (filter p xs) x
into_filter p [] x among passes = among
into_filter p (y ∷ xs) x among passes = elim (member_cases y x xs among) [
  | inl same ↦ subst (λ l. Contains l x) (sym (filter_hit p y xs (ap p same ∙ passes))) (subst (Contains (y ∷ filter p xs)) same (contains_first y (filter p xs)))
  | inr later ↦ let kept : Contains (filter p xs) x = into_filter p xs x later passes in elim (cases_Bool (p y)) [
    | inl test ↦ subst (λ l. Contains l x) (sym (filter_hit p y xs test)) (contains_later y x (filter p xs) kept)
    | inr test ↦ subst (λ l. Contains l x) (sym (filter_miss p y xs test)) kept
  ]
]

-- ---- maps

pub of_map : {A B : Type 0} (f : A → B) (xs : List A) (y : B) → Contains (map f xs) y → (x : A) × Contains xs x × (f x ≡ y)
of_map f [] y among = absurd (no_member y among)
of_map f (x ∷ xs) y among = elim (member_cases (f x) y (map f xs) among) [
  | inl same ↦ (x, contains_first x xs, same)
  | inr later ↦ let m = of_map f xs y later in (m.0, contains_later x m.0 xs m.1, m.2)
]

pub into_map : {A B : Type 0} (f : A → B) (xs : List A) (x : A) → Contains xs x → Contains (map f xs) (f x)
into_map f [] x among = absurd (no_member x among)
into_map f (y ∷ xs) x among = elim (member_cases y x xs among) [
  | inl same ↦ subst (λ z. Contains (map f (y ∷ xs)) (f z)) same (contains_first (f y) (map f xs))
  | inr later ↦ contains_later (f y) (f x) (map f xs) (into_map f xs x later)
]

pub of_flat_map : {A B : Type 0} (f : A → List B) (xs : List A) (y : B) → Contains (flat_map f xs) y → (x : A) × Contains xs x × Contains (f x) y
of_flat_map f [] y among = absurd (no_member y among)
of_flat_map f (x ∷ xs) y among = elim (Contains-append_cases (f x) (flat_map f xs) y among) [
  | inl own ↦ (x, contains_first x xs, own)
  | inr later ↦ let m = of_flat_map f xs y later in (m.0, contains_later x m.0 xs m.1, m.2)
]

pub into_flat_map : {A B : Type 0} (f : A → List B) (xs : List A) (x : A) (y : B) → Contains xs x → Contains (f x) y → Contains (flat_map f xs) y
into_flat_map f [] x y among own = absurd (no_member x among)
into_flat_map f (z ∷ xs) x y among own = elim (member_cases z x xs among) [
  | inl same ↦ Contains-append_left (f z) (flat_map f xs) y (subst (λ w. Contains (f w) y) (sym same) own)
  | inr later ↦ Contains-append_right (f z) (flat_map f xs) y (into_flat_map f xs x y later own)
]

-- ---- lists put in order

module _ {A : Type 0} (less : A → A → Bool) where
  pub of_placed : (x z : A) (ys : List A) → Contains (placed less x ys) z → (x ≡ z) ⊎ Contains ys z
  unfolding placed
  of_placed x z [] among = member_cases x z [] among
  of_placed x z (y ∷ ys) among = elim (cases_Bool (less y x)) [
    | inl test ↦ elim (member_cases y z (placed less x ys) (rw test at among)) [
      | inl same ↦ inr (subst (Contains (y ∷ ys)) same (contains_first y ys))
      | inr later ↦ elim (of_placed x z ys later) [ inl same ↦ inl same | inr other ↦ inr (contains_later y z ys other) ]
    ]
    | inr test ↦ member_cases x z (y ∷ ys) (rw test at among)
  ]

  pub first_placed : (x : A) (ys : List A) → Contains (placed less x ys) x
  unfolding placed
  first_placed x [] = contains_first x []
  first_placed x (y ∷ ys) = elim (cases_Bool (less y x)) [
    | inl test ↦ rw test (contains_later y x (placed less x ys) (first_placed x ys))
    | inr test ↦ rw test (contains_first x (y ∷ ys))
  ]

  pub later_placed : (x z : A) (ys : List A) → Contains ys z → Contains (placed less x ys) z
  unfolding placed
  later_placed x z [] among = absurd (no_member z among)
  later_placed x z (y ∷ ys) among = elim (cases_Bool (less y x)) [
    | inl test ↦ rw test (elim (member_cases y z ys among) [
      | inl same ↦ subst (Contains (y ∷ placed less x ys)) same (contains_first y (placed less x ys))
      | inr later ↦ contains_later y z (placed less x ys) (later_placed x z ys later)
    ])
    | inr test ↦ rw test (contains_later x z (y ∷ ys) among)
  ]

  pub of_in_order : (z : A) (xs : List A) → Contains (in_order less xs) z → Contains xs z
  unfolding in_order
  of_in_order z [] among = among
  of_in_order z (x ∷ xs) among = elim (of_placed x z (in_order less xs) among) [
    | inl same ↦ subst (Contains (x ∷ xs)) same (contains_first x xs)
    | inr other ↦ contains_later x z xs (of_in_order z xs other)
  ]

  pub into_in_order : (z : A) (xs : List A) → Contains xs z → Contains (in_order less xs) z
  unfolding in_order
  into_in_order z [] among = among
  into_in_order z (x ∷ xs) among = elim (member_cases x z xs among) [
    | inl same ↦ subst (Contains (placed less x (in_order less xs))) same (first_placed x (in_order less xs))
    | inr later ↦ later_placed x z (in_order less xs) (into_in_order z xs later)
  ]
