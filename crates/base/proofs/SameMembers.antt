-- Strictly ascending lists with the same members are one list.
use Rattle.std.proofs.Common.{◌≡◌, List, [], ◌∷◌, refl, sym, ap, subst, ◌∙◌, inl, inr, Less}
use Rattle.std.specs.Prelude.{Contains}
use Rattle.std.specs.Cmp.{IsTotalOrder}
use Rattle.std.specs.List.Sorted.{IsStrictlySortedBy}
use Rattle.std.specs.declared.cmp.Ordering.{Ordering}
use Rattle.std.specs.declared.cmp.Ordering.TheVariants.{Equal}
use Rattle.std.proofs.lemmas.Cmp.{tied_itself}
use Rattle.std.proofs.lemmas.Map.Keys.{sorted_head, sorted_tail}
use Rattle.base.proofs.Membership.{no_member, contains_first, contains_later, member_cases, each_member}

-- where no two members come before one another
module _ {A : Type 0} (cmp : A → A → Ordering) (turns : (x y : A) → cmp x y ≡ Less → cmp y x ≡ Less → ⊥) where
  behind : (x z : A) (xs : List A) → IsStrictlySortedBy cmp (x ∷ xs) → Contains xs z → cmp x z ≡ Less
  behind x z xs up among = each_member (λ y. cmp x y ≡ Less) xs z (sorted_head cmp x xs up) among

  heads : (x y : A) (xs ys : List A) → IsStrictlySortedBy cmp (x ∷ xs) → IsStrictlySortedBy cmp (y ∷ ys) → Contains (y ∷ ys) x → Contains (x ∷ xs) y → x ≡ y
  heads x y xs ys up too here there = elim (member_cases y x ys here) [
    | inl is ↦ sym is
    | inr later ↦ elim (member_cases x y xs there) [
      | inl is ↦ is
      | inr behind_it ↦ absurd (turns x y (behind x y xs up behind_it) (behind y x ys too later))
    ]
  ]

  tail_in : (x y z : A) (xs ys : List A) → x ≡ y → IsStrictlySortedBy cmp (x ∷ xs) → Contains xs z → Contains (y ∷ ys) z → Contains ys z
  tail_in x y z xs ys same up among there = elim (member_cases y z ys there) [
    | inl is ↦ let less : cmp x x ≡ Less = subst (λ w. cmp x w ≡ Less) (sym (same ∙ is)) (behind x z xs up among) in absurd (turns x x less less)
    | inr later ↦ later
  ]

  pub same_ascending : (xs ys : List A) → IsStrictlySortedBy cmp xs → IsStrictlySortedBy cmp ys → ((z : A) → Contains xs z → Contains ys z) → ((z : A) → Contains ys z → Contains xs z) → xs ≡ ys
  same_ascending [] [] up too into back = refl
  same_ascending [] (y ∷ ys) up too into back = absurd (no_member y (back y (contains_first y ys)))
  same_ascending (x ∷ xs) [] up too into back = absurd (no_member x (into x (contains_first x xs)))
  same_ascending (x ∷ xs) (y ∷ ys) up too into back =
      let same : x ≡ y = heads x y xs ys up too (into x (contains_first x xs)) (back y (contains_first y ys)) in
      ap (λ (z : A). z ∷ xs) same
      ∙ ap (λ (l : List A). y ∷ l) (same_ascending xs ys (sorted_tail cmp x xs up) (sorted_tail cmp y ys too)
      (λ z among. tail_in x y z xs ys same up among (into z (contains_later x z xs among)))
      (λ z among. tail_in y x z ys xs (sym same) too among (back z (contains_later y z ys among))))

-- by a total order
module _ {A : Type 0} {cmp : A → A → Ordering} (o : IsTotalOrder cmp) where
  no_circle : (x y : A) → cmp x y ≡ Less → cmp y x ≡ Less → ⊥
  no_circle x y e f = absurd (let h : Less ≡ Equal = sym (o.trans x y x e f) ∙ tied_itself o x in cc)

  pub same_members : (xs ys : List A) → IsStrictlySortedBy cmp xs → IsStrictlySortedBy cmp ys → ((z : A) → Contains xs z → Contains ys z) → ((z : A) → Contains ys z → Contains xs z) → xs ≡ ys
  same_members xs ys = same_ascending cmp no_circle xs ys
