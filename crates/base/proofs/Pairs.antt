-- Two lists whose members stand in pairs, where the standard library has no lemma.
use Rattle.std.proofs.Common.{◌≡◌, inl, inr, List, [], ◌∷◌, ◌++◌, length, zip, ap, subst, arith, sym}
use Rattle.std.specs.List.{AllByRecursion, AllZip, Contains}
use Rattle.std.proofs.lemmas.Slice.Zip.{AllZip-long}
use Rattle.base.proofs.Membership.{contains_first, contains_later, no_member, member_cases}

-- ---- what holds of each pair

pub AllZip-append : {A B : Type 0} (R : A → B → Type 0) (xs others : List A) (ys more : List B) → AllZip R xs ys → AllZip R others more → AllZip R (xs ++ others) (ys ++ more)
AllZip-append R [] others [] more first later = later
AllZip-append R [] others (y ∷ ys) more first later = absurd first
AllZip-append R (x ∷ xs) others [] more first later = absurd first
AllZip-append R (x ∷ xs) others (y ∷ ys) more first later = (first.0, AllZip-append R xs others ys more first.1 later)

pub AllZip-push : {A B : Type 0} (R : A → B → Type 0) (xs : List A) (ys : List B) (x : A) (y : B) → AllZip R xs ys → R x y → AllZip R (xs ++ x ∷ []) (ys ++ y ∷ [])
AllZip-push R xs ys x y all one = AllZip-append R xs (x ∷ []) ys (y ∷ []) all (one, tt)

pub AllZip-weaker : {A B : Type 0} (R S : A → B → Type 0) → ((x : A) (y : B) → R x y → S x y) → (xs : List A) (ys : List B) → AllZip R xs ys → AllZip S xs ys
AllZip-weaker R S so [] [] all = tt
AllZip-weaker R S so [] (y ∷ ys) all = absurd all
AllZip-weaker R S so (x ∷ xs) [] all = absurd all
AllZip-weaker R S so (x ∷ xs) (y ∷ ys) all = (so x y all.0, AllZip-weaker R S so xs ys all.1)

-- the same, with what holds of the first members
pub AllZip-weaker_where : {A B : Type 0} (P : A → Type 0) (R S : A → B → Type 0) → ((x : A) (y : B) → P x → R x y → S x y) → (xs : List A) (ys : List B) → AllByRecursion P xs → AllZip R xs ys → AllZip S xs ys
AllZip-weaker_where P R S both [] [] each all = tt
AllZip-weaker_where P R S both [] (y ∷ ys) each all = absurd all
AllZip-weaker_where P R S both (x ∷ xs) [] each all = absurd all
AllZip-weaker_where P R S both (x ∷ xs) (y ∷ ys) each all = (both x y each.0 all.0, AllZip-weaker_where P R S both xs ys each.1 all.1)

pub AllZip-as_long : {A B : Type 0} (R : A → B → Type 0) (xs : List A) (ys : List B) → AllZip R xs ys → length xs ≡ length ys
AllZip-as_long R xs ys all = sym (AllZip-long R xs ys all)

-- ---- the other member of a pair

pub AllZip-second : {A B : Type 0} (R : A → B → Type 0) (xs : List A) (ys : List B) (x : A) → AllZip R xs ys → Contains xs x → (y : B) × Contains ys y × R x y
AllZip-second R [] [] x all has = absurd (no_member x has)
AllZip-second R [] (z ∷ ys) x all has = absurd all
AllZip-second R (z ∷ xs) [] x all has = absurd all
AllZip-second R (z ∷ xs) (y ∷ ys) x all has = elim (member_cases z x xs has) [
  | inl same ↦ (y, contains_first y ys, subst (λ w. R w y) same all.0)
  | inr later ↦ let found = AllZip-second R xs ys x all.1 later in (found.0, contains_later y found.0 ys found.1, found.2)
]

pub AllZip-first : {A B : Type 0} (R : A → B → Type 0) (xs : List A) (ys : List B) (y : B) → AllZip R xs ys → Contains ys y → (x : A) × Contains xs x × R x y
AllZip-first R [] [] y all has = absurd (no_member y has)
AllZip-first R [] (z ∷ ys) y all has = absurd all
AllZip-first R (x ∷ xs) [] y all has = absurd all
AllZip-first R (x ∷ xs) (z ∷ ys) y all has = elim (member_cases z y ys has) [
  | inl same ↦ (x, contains_first x xs, subst (R x) same all.0)
  | inr later ↦ let found = AllZip-first R xs ys y all.1 later in (found.0, contains_later x found.0 xs found.1, found.2)
]

-- ---- members of pairs

pub first_in_zip : {A B : Type 0} (xs : List A) (ys : List B) (x : A) (y : B) → Contains (zip xs ys) (x, y) → Contains xs x
first_in_zip [] ys x y among = absurd (no_member (x, y) among)
first_in_zip (a ∷ xs) [] x y among = absurd (no_member (x, y) among)
first_in_zip {A} {B} (a ∷ xs) (b ∷ ys) x y among = elim (member_cases (a, b) (x, y) (zip xs ys) among) [
  | inl same ↦ subst (Contains (a ∷ xs)) (ap (λ (r : A × B). r.0) same) (contains_first a xs)
  | inr later ↦ contains_later a x xs (first_in_zip xs ys x y later)
]

pub second_in_zip : {A B : Type 0} (xs : List A) (ys : List B) (x : A) (y : B) → Contains (zip xs ys) (x, y) → Contains ys y
second_in_zip [] ys x y among = absurd (no_member (x, y) among)
second_in_zip (a ∷ xs) [] x y among = absurd (no_member (x, y) among)
second_in_zip {A} {B} (a ∷ xs) (b ∷ ys) x y among = elim (member_cases (a, b) (x, y) (zip xs ys) among) [
  | inl same ↦ subst (Contains (b ∷ ys)) (ap (λ (r : A × B). r.1) same) (contains_first b ys)
  | inr later ↦ contains_later b y ys (second_in_zip xs ys x y later)
]

-- lists that are as long have a pair for each member
pub zip_all : {A B : Type 0} (xs : List A) (ys : List B) → length xs ≡ length ys → AllZip (λ x y. Contains (zip xs ys) (x, y)) xs ys
zip_all [] [] many = tt
zip_all [] (y ∷ ys) many = absurd (omega arith)
zip_all (x ∷ xs) [] many = absurd (omega arith)
zip_all (x ∷ xs) (y ∷ ys) many = (contains_first _ _, AllZip-weaker _ _ (λ a b h. contains_later _ _ _ h) xs ys (zip_all xs ys (omega arith)))

pub beside_first : {A B : Type 0} (xs : List A) (ys : List B) (x : A) → length xs ≡ length ys → Contains xs x → (y : B) × Contains (zip xs ys) (x, y)
beside_first xs ys x many among = let found = AllZip-second _ xs ys x (zip_all xs ys many) among in (found.0, found.2)

pub beside_second : {A B : Type 0} (xs : List A) (ys : List B) (y : B) → length xs ≡ length ys → Contains ys y → (x : A) × Contains (zip xs ys) (x, y)
beside_second xs ys y many among = let found = AllZip-first _ xs ys y (zip_all xs ys many) among in (found.0, found.2)
