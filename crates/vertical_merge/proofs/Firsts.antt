-- The first member of each class of a total order: what is found stays, and ascending lists are
-- told by what is found.
use Rattle.std.proofs.Common.{◌≡◌, ◌+◌, zero, suc, Bool, true, List, [], ◌∷◌, refl, sym, ap, ◌∙◌, arith, inl, inr}
use Rattle.std.specs.Prelude.{Contains, Some, is_some}
use Rattle.std.specs.declared.cmp.Ordering.{Ordering}
use Rattle.std.specs.Ordering.{is_lt, is_eq}
use Rattle.std.specs.Cmp.{IsTotalOrder}
use Rattle.std.specs.List.{dedup, dedup_from, find, list_any}
use Rattle.std.specs.List.Sorted.{IsStrictlySortedBy, IsSorted}
use Rattle.std.proofs.lemmas.Cmp.{tied_itself}
use Rattle.std.proofs.lemmas.List.Kept.{IsStrictlySortedBy-dedup}
use Rattle.std.proofs.lemmas.List.Sorted.{ranks_by}
use Rattle.base.specs.Ordered.{in_order, placed}
use Rattle.base.proofs.Bools.{by_bool, swap_tests, Less-from_is_lt, Equal-from_is_eq}
use Rattle.base.proofs.Membership.{member_cases, no_member, each_member, found_among}
use Rattle.base.proofs.StableSorts.{Rises, Rises-in_order}
use Rattle.base.proofs.SameMembers.{same_members}

pub is_some-find : {A : Type 0} (p : A → Bool) (xs : List A) → is_some (find p xs) ≡ list_any p xs
is_some-find p [] = refl
is_some-find p (x ∷ xs) = by_bool (p x) (λ t. rw t refl) (λ f. rw f (is_some-find p xs))

module _ {A : Type 0} {cmp : A → A → Ordering} (o : IsTotalOrder cmp) where
  abbrev less : A → A → Bool
  less x y = is_lt (cmp x y)

  abbrev same : A → A → Bool
  same x y = is_eq (cmp x y)

  rises_sorted : (xs : List A) → Rises less xs → IsSorted cmp xs
  rises_sorted [] up k d le lt = absurd (omega arith)
  rises_sorted (x ∷ []) up zero d le lt = absurd (omega arith)
  rises_sorted (x ∷ y ∷ ys) up zero d le lt = up.0.0
  rises_sorted (x ∷ xs) up (suc k) d le lt =
      let e : suc k + 1 ≡ suc (k + 1) = omega arith in
      rw e (rises_sorted xs up.1 k d (omega arith) (omega arith))

  pub ascending-firsts : (xs : List A) → IsStrictlySortedBy cmp (dedup same (in_order less xs))
  ascending-firsts _ = IsStrictlySortedBy-dedup o (λ x y. refl) _
      (rises_sorted _ (Rises-in_order less (ranks_by o (λ x. x)) _))

  -- the test passes the members of one class
  abbrev pub IsOfClass : (A → Bool) → Type 0
  IsOfClass p = (x y : A) → p x ≡ true → p y ≡ same x y

  pub own_class : (t : A) → IsOfClass (same t)
  own_class t x y e = ap is_eq (o.congr t x y (Equal-from_is_eq _ e))

  module _ (p : A → Bool) (of_class : IsOfClass p) where
    apart : (x y : A) → less y x ≡ true → p y ≡ true → p x ≡ true → ⊥
    apart x y l e f = cc (Less-from_is_lt _ l, of_class y x e)

    find-placed : (x : A) (ys : List A) → find p (placed less x ys) ≡ find p (x ∷ ys)
    unfolding placed
    find-placed x [] = refl
    find-placed x (y ∷ ys) = by_bool (less y x)
        (λ l. rw (l, find-placed x ys) (swap_tests _ _ _ _ _ (apart x y l)))
        (λ f. rw f refl)

    find-in_order : (xs : List A) → find p (in_order less xs) ≡ find p xs
    unfolding in_order
    find-in_order [] = refl
    find-in_order (x ∷ xs) = rw (find-placed x (in_order less xs), find-in_order xs) refl

    find-dedup_from : (x : A) (ys : List A) → find p (dedup_from same x ys) ≡ find p (x ∷ ys)
    find-dedup_from x [] = refl
    find-dedup_from x (y ∷ ys) = by_bool (same y x)
        (λ e. rw (e, find-dedup_from x ys) (by_bool (p x)
        (λ t. rw t refl)
        (λ f. by_bool (p y) (λ t. absurd cc (of_class y x t)) (λ g. rw (f, g) refl))))
        (λ f. rw (f, find-dedup_from y ys) refl)

    pub find-firsts : (xs : List A) → find p (dedup same (in_order less xs)) ≡ find p xs
    find-firsts xs = of_list (in_order less xs) ∙ find-in_order xs where
      of_list : (xs : List A) → find p (dedup same xs) ≡ find p xs
      of_list [] = refl
      of_list (x ∷ xs) = find-dedup_from x xs

  -- a member of an ascending list is found
  pub found_itself : (xs : List A) (t : A) → IsStrictlySortedBy cmp xs → Contains xs t
      → find (same t) xs ≡ Some t
  unfolding IsStrictlySortedBy
  found_itself [] t up among = absurd (no_member t among)
  found_itself (x ∷ xs) t up among = elim (member_cases x t xs among) [
    | inl e ↦ rw (e, tied_itself o t) refl
    | inr i ↦ rw (o.antisymm t x, each_member _ _ t up.0 i) (found_itself xs t up.1 i)
  ]

  -- ascending lists in which the same is found are one
  pub same_found : (xs ys : List A) → IsStrictlySortedBy cmp xs → IsStrictlySortedBy cmp ys
      → ((t : A) → find (same t) xs ≡ find (same t) ys) → xs ≡ ys
  same_found xs ys up rise e = same_members o xs ys up rise
      (λ t c. found_among (same t) ys t (sym (e t) ∙ found_itself xs t up c))
      (λ t c. found_among (same t) xs t (e t ∙ found_itself ys t rise c))
