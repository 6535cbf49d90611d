-- Strictly ascending lists: their places and parts, and lists whose members are told from the one before.
use Rattle.std.proofs.Common.{◌≡◌, ℕ, zero, suc, ◌<◌, Bool, true, false, List, [], ◌∷◌, ◌++◌, get_or, take, drop, map, Option, Some, None, refl, sym, subst, arith, inl, inr, take-append-drop}
use Rattle.std.specs.Prelude.{slice_get, ◌↔◌}
use Rattle.std.specs.declared.cmp.Ordering.{Ordering}
use Rattle.std.specs.declared.cmp.Ordering.TheVariants.{Less, Equal, Greater}
use Rattle.std.specs.Cmp.{IsTotalOrder}
use Rattle.std.specs.List.{AllByRecursion, AllPairs, Contains, IsDistinct}
use Rattle.std.specs.Ordering.{is_lt, is_eq, eq_by_cmp, ordering_reverse}
use Rattle.std.proofs.lemmas.Bool.{cases_Bool, and_parts, and_from}
use Rattle.std.specs.List.Sorted.{IsStrictlySortedBy}
use Rattle.std.proofs.lemmas.List.Elements.{All-from_recursion, recursion_from_All, All-contains, Contains-append_left, Contains-append_right, Contains-append_cases}
use Rattle.std.proofs.lemmas.List.Kept.{AllPairs-cons}
use Rattle.std.proofs.lemmas.Map.Keys.{sorted_head, sorted_tail, Less-from_sorted, IsDistinct-head, IsDistinct-tail}
use Rattle.std.proofs.lemmas.Map.Views.{All-before_last}
use Rattle.std.proofs.lemmas.Option.{slice_get_within, get_or_from_slice_get, slice_get-get_or}
use Rattle.base.specs.Order.{InOrderAfter, ComesAfter, are_in_order_after, comes_after}
use Rattle.base.proofs.Lists.{AllByRecursion-append, AllByRecursion-weaker, AllByRecursion-map}
use Rattle.base.proofs.Membership.{each_member, all_members, contains_first, contains_later, only_member, into_map, of_placed, of_in_order}
use Rattle.base.proofs.Bools.{Less-from_is_lt, is_lt-from_Less}
use Rattle.base.specs.Ordered.{placed, in_order}

-- ---- a relation that goes on, told from the one before

module _ {A : Type 0} (MayFollow : Option A → A → Type 0) (R : A → A → Type 0) (gives : (x y : A) → MayFollow (Some x) y → R x y) (trans : (x y z : A) → R x y → R y z → R x z) where
  -- what came before stands so to every member
  pub before_all : (x : A) (ys : List A) → InOrderAfter MayFollow (Some x) ys → AllByRecursion (R x) ys
  before_all x [] up = tt
  before_all x (y ∷ ys) up = let r : R x y = gives x y up.0 in (r, AllByRecursion-weaker (R y) (R x) (λ z s. trans x y z r s) ys (before_all y ys up.1))

  pub all_pairs_in_order : (before : Option A) (xs : List A) → InOrderAfter MayFollow before xs → AllPairs R xs
  all_pairs_in_order before [] up = λ i j d below within. absurd (omega arith)
  all_pairs_in_order before (x ∷ xs) up = AllPairs-cons R x xs (All-from_recursion (R x) xs (before_all x xs up.1)) (all_pairs_in_order (Some x) xs up.1)

module _ {A : Type 0} (cmp : A → A → Ordering) where
  pub sorted_nil : IsStrictlySortedBy cmp []
  unfolding IsStrictlySortedBy
  sorted_nil = tt

  pub sorted_cons : (x : A) (xs : List A) → AllByRecursion (λ y. cmp x y ≡ Less) xs → IsStrictlySortedBy cmp xs → IsStrictlySortedBy cmp (x ∷ xs)
  unfolding IsStrictlySortedBy
  sorted_cons x xs first others = (first, others)

  -- ---- from the one before, and back

  pub sorted_from_order : IsTotalOrder cmp → (before : Option A) (xs : List A) → InOrderAfter (ComesAfter cmp) before xs → IsStrictlySortedBy cmp xs
  sorted_from_order total before [] up = sorted_nil
  sorted_from_order total before (x ∷ xs) up =
      sorted_cons x xs (before_all (ComesAfter cmp) (λ y z. cmp y z ≡ Less) (λ y z less. less) total.trans x xs up.1) (sorted_from_order total (Some x) xs up.1)

  pub order_from_sorted : (before : Option A) (xs : List A) → AllByRecursion (ComesAfter cmp before) xs → IsStrictlySortedBy cmp xs → InOrderAfter (ComesAfter cmp) before xs
  order_from_sorted before [] all up = tt
  order_from_sorted before (x ∷ xs) all up = (all.0, order_from_sorted (Some x) xs (sorted_head cmp x xs up) (sorted_tail cmp x xs up))

  -- ---- what the tests tell

  pub comes_after_tells : (before : Option A) (x : A) → (comes_after cmp before x ≡ true) ↔ ComesAfter cmp before x
  comes_after_tells None x = (λ test. tt, λ after. refl)
  comes_after_tells (Some before) x = (Less-from_is_lt (cmp before x), is_lt-from_Less (cmp before x))

  pub in_order_tells : (before : Option A) (xs : List A) → (are_in_order_after (comes_after cmp) before xs ≡ true) ↔ InOrderAfter (ComesAfter cmp) before xs
  in_order_tells before [] = (λ test. tt, λ up. refl)
  in_order_tells before (x ∷ xs) = (
    λ test. let each = and_parts (comes_after cmp before x) (are_in_order_after (comes_after cmp) (Some x) xs) test in ((comes_after_tells before x).0 each.0, (in_order_tells (Some x) xs).0 each.1),
    λ up. and_from (comes_after cmp before x) (are_in_order_after (comes_after cmp) (Some x) xs) ((comes_after_tells before x).1 up.0) ((in_order_tells (Some x) xs).1 up.1),
  )

  -- ---- places

  pub Less-at_places : (xs : List A) (j k : ℕ) (x y : A) → IsStrictlySortedBy cmp xs → j < k → slice_get xs j ≡ Some x → slice_get xs k ≡ Some y → cmp x y ≡ Less
  Less-at_places xs j k x y up below at behind =
      let less : cmp (get_or xs j x) (get_or xs k x) ≡ Less = Less-from_sorted cmp xs j k x up below (slice_get_within xs k y behind) in
      rw (get_or_from_slice_get xs j x x at, get_or_from_slice_get xs k y x behind) at less

  pub sorted_from_places : (xs : List A) → ((j k : ℕ) (x y : A) → j < k → slice_get xs j ≡ Some x → slice_get xs k ≡ Some y → cmp x y ≡ Less) → IsStrictlySortedBy cmp xs
  sorted_from_places [] up = sorted_nil
  sorted_from_places (x ∷ xs) up =
      sorted_cons x xs (recursion_from_All (λ y. cmp x y ≡ Less) xs (λ k d within. up 0 (suc k) x (get_or xs k d) (omega arith) refl (slice_get-get_or xs k d within)))
      (sorted_from_places xs (λ j k y z below at behind. up (suc j) (suc k) y z (omega arith) at behind))

  -- ---- parts

  pub sorted_append : (xs ys : List A) → IsStrictlySortedBy cmp xs → IsStrictlySortedBy cmp ys → ((x y : A) → Contains xs x → Contains ys y → cmp x y ≡ Less) → IsStrictlySortedBy cmp (xs ++ ys)
  sorted_append [] ys left right across = right
  sorted_append (x ∷ xs) ys left right across =
      sorted_cons x (xs ++ ys) (AllByRecursion-append (λ y. cmp x y ≡ Less) xs ys (sorted_head cmp x xs left) (all_members (λ y. cmp x y ≡ Less) ys (λ y among. across x y (contains_first x xs) among)))
      (sorted_append xs ys (sorted_tail cmp x xs left) right (λ z y here there. across z y (contains_later x z xs here) there))

  pub sorted_right : (xs ys : List A) → IsStrictlySortedBy cmp (xs ++ ys) → IsStrictlySortedBy cmp ys
  sorted_right [] ys up = up
  sorted_right (x ∷ xs) ys up = sorted_right xs ys (sorted_tail cmp x (xs ++ ys) up)

  pub sorted_left : (xs ys : List A) → IsStrictlySortedBy cmp (xs ++ ys) → IsStrictlySortedBy cmp xs
  sorted_left [] ys up = sorted_nil
  sorted_left (x ∷ xs) ys up =
      sorted_cons x xs (all_members (λ y. cmp x y ≡ Less) xs (λ y among. each_member (λ y. cmp x y ≡ Less) (xs ++ ys) y (sorted_head cmp x (xs ++ ys) up) (Contains-append_left xs ys y among)))
      (sorted_left xs ys (sorted_tail cmp x (xs ++ ys) up))

  -- each member of the front is less than each one behind it
  pub sorted_across : (xs ys : List A) (x y : A) → IsStrictlySortedBy cmp (xs ++ ys) → Contains xs x → Contains ys y → cmp x y ≡ Less
  sorted_across [] ys x y up (k, below, at) there = absurd (omega (arith, below))
  sorted_across (z ∷ xs) ys x y up (zero, below, at) there =
      subst (λ w. cmp w y ≡ Less) at (each_member (λ w. cmp z w ≡ Less) (xs ++ ys) y (sorted_head cmp z (xs ++ ys) up) (Contains-append_right xs ys y there))
  sorted_across (z ∷ xs) ys x y up (suc k, below, at) there = sorted_across xs ys x y (sorted_tail cmp z (xs ++ ys) up) (k, omega (arith, below), at) there

  -- one more behind a last one that is less
  pub sorted_push : IsTotalOrder cmp → (xs : List A) (x y : A) → IsStrictlySortedBy cmp (xs ++ x ∷ []) → cmp x y ≡ Less → IsStrictlySortedBy cmp ((xs ++ x ∷ []) ++ y ∷ [])
  sorted_push total xs x y up less =
      sorted_append (xs ++ x ∷ []) (y ∷ []) up (sorted_cons y [] tt sorted_nil) (λ z w here there. subst (λ v. cmp z v ≡ Less) (only_member y w there) (elim (Contains-append_cases xs (x ∷ []) z here) [
        | inl front ↦ total.trans z x y (All-contains (λ v. cmp v x ≡ Less) xs z (All-before_last cmp xs x up) front) less
        | inr last ↦ subst (λ v. cmp v y ≡ Less) (only_member x z last) less
      ]))

  pub sorted_take : (n : ℕ) (xs : List A) → IsStrictlySortedBy cmp xs → IsStrictlySortedBy cmp (take n xs)
  sorted_take n xs up = sorted_left (take n xs) (drop n xs) (subst (IsStrictlySortedBy cmp) (sym (take-append-drop n xs)) up)

  pub sorted_drop : (n : ℕ) (xs : List A) → IsStrictlySortedBy cmp xs → IsStrictlySortedBy cmp (drop n xs)
  sorted_drop n xs up = sorted_right (take n xs) (drop n xs) (subst (IsStrictlySortedBy cmp) (sym (take-append-drop n xs)) up)

  pub sorted_map : {B : Type 0} (order : B → B → Ordering) (f : A → B) → ((x y : A) → cmp x y ≡ Less → order (f x) (f y) ≡ Less) → (xs : List A) → IsStrictlySortedBy cmp xs → IsStrictlySortedBy order (map f xs)
  unfolding IsStrictlySortedBy
  sorted_map order f keeps [] up = tt
  sorted_map order f keeps (x ∷ xs) up =
      (AllByRecursion-map (λ y. cmp x y ≡ Less) (λ z. order (f x) z ≡ Less) f (λ y less. keeps x y less) xs up.0, sorted_map order f keeps xs up.1)

  -- where the images ascend, the list does
  pub sorted_unmap : {B : Type 0} (order : B → B → Ordering) (f : A → B) → ((x y : A) → order (f x) (f y) ≡ Less → cmp x y ≡ Less) → (xs : List A) → IsStrictlySortedBy order (map f xs) → IsStrictlySortedBy cmp xs
  sorted_unmap order f keeps [] up = sorted_nil
  sorted_unmap order f keeps (x ∷ xs) up =
      sorted_cons x xs (all_members (λ y. cmp x y ≡ Less) xs (λ y among. keeps x y (each_member (λ z. order (f x) z ≡ Less) (map f xs) (f y) (sorted_head order (f x) (map f xs) up) (into_map f xs y among))))
      (sorted_unmap order f keeps xs (sorted_tail order (f x) (map f xs) up))

-- ---- a list that was put in order

less_of_two : (o p : Ordering) → o ≡ ordering_reverse p → is_eq o ≡ false → is_lt p ≡ false → o ≡ Less
less_of_two o Less e apart greater = absurd cc
less_of_two o Equal e apart greater = let tie : is_eq o ≡ true = rw e refl in absurd cc
less_of_two o Greater e apart greater = e

module _ {A : Type 0} (cmp : A → A → Ordering) (total : IsTotalOrder cmp) where
  abbrev less : A → A → Bool
  less x y = is_lt (cmp x y)

  -- of two that are not equal one is less
  other_less : (x y : A) → is_eq (cmp x y) ≡ false → is_lt (cmp y x) ≡ false → cmp x y ≡ Less
  other_less x y apart greater = less_of_two (cmp x y) (cmp y x) (total.antisymm x y) apart greater

  -- a member at its place among others, none of which is its equal
  pub sorted_placed : (x : A) (ys : List A) → AllByRecursion (λ y. is_eq (cmp x y) ≡ false) ys → IsStrictlySortedBy cmp ys → IsStrictlySortedBy cmp (placed less x ys)
  unfolding placed
  sorted_placed x [] apart up = sorted_cons cmp x [] tt up
  sorted_placed x (y ∷ ys) apart up = elim (cases_Bool (is_lt (cmp y x))) [
    | inl test ↦ rw test (sorted_cons cmp y (placed less x ys) (all_members (λ z. cmp y z ≡ Less) (placed less x ys) (λ z among. elim (of_placed less x z ys among) [
      | inl same ↦ subst (λ w. cmp y w ≡ Less) same (Less-from_is_lt (cmp y x) test)
      | inr other ↦ each_member (λ w. cmp y w ≡ Less) ys z (sorted_head cmp y ys up) other
    ])) (sorted_placed x ys apart.1 (sorted_tail cmp y ys up)))
    | inr test ↦ let first : cmp x y ≡ Less = other_less x y apart.0 test in
        rw test (sorted_cons cmp x (y ∷ ys) (first, AllByRecursion-weaker (λ z. cmp y z ≡ Less) (λ z. cmp x z ≡ Less) (λ z behind. total.trans x y z first behind) ys (sorted_head cmp y ys up)) up)
  ]

  -- different members in order strictly ascend
  pub sorted_in_order : (xs : List A) → IsDistinct (eq_by_cmp cmp) xs → IsStrictlySortedBy cmp (in_order less xs)
  unfolding in_order
  sorted_in_order [] apart = sorted_nil cmp
  sorted_in_order (x ∷ xs) apart =
      sorted_placed x (in_order less xs) (all_members (λ y. is_eq (cmp x y) ≡ false) (in_order less xs) (λ y among. each_member (λ z. is_eq (cmp x z) ≡ false) xs y (IsDistinct-head (eq_by_cmp cmp) x xs apart) (of_in_order less y xs among)))
      (sorted_in_order xs (IsDistinct-tail (eq_by_cmp cmp) x xs apart))
