-- Ascending lists of one length, of which one has all members of the other, are equal.
use Rattle.std.proofs.Common.{◌≡◌, ℕ, ◌<◌, List, [], ◌∷◌, length, nat_cmp, refl, subst, arith, inl, inr}
use Rattle.std.specs.List.{Contains}
use Rattle.std.specs.List.Sorted.{IsStrictlyIncreasing, IsStrictlySortedBy}
use Rattle.std.proofs.lemmas.Map.Keys.{sorted_from_strictly_increasing, sorted_tail}
use Rattle.base.proofs.Lists.{cons_same}
use Rattle.base.proofs.Membership.{member_cases, contains_first, contains_later}
use Rattle.base.proofs.Rising.{above_first}

-- what is above the first member of one list is behind the first member of the other
behind_first : (m f x : ℕ) (ms : List ℕ) → IsStrictlySortedBy nat_cmp (m ∷ ms) → Contains (m ∷ ms) f → f < x → Contains (m ∷ ms) x → Contains ms x
behind_first m f x ms up first higher among = elim (member_cases m x ms among) [
  | inl same ↦ elim (member_cases m f ms first) [
    | inl as_well ↦ absurd (omega (arith, same, as_well, higher))
    | inr later ↦ absurd (let more : m < f = above_first m f ms up later in omega (arith, same, more, higher))
  ]
  | inr later ↦ later
]

same_sorted : (many few : List ℕ) → IsStrictlySortedBy nat_cmp many → IsStrictlySortedBy nat_cmp few → length many ≡ length few
    → ((x : ℕ) → Contains few x → Contains many x) → many ≡ few
same_sorted [] [] up rise same among = refl
same_sorted [] (f ∷ fs) up rise same among = absurd (omega (arith, same))
same_sorted (m ∷ ms) [] up rise same among = absurd (omega (arith, same))
same_sorted (m ∷ ms) (f ∷ fs) up rise same among =
    let first : Contains (m ∷ ms) f = among f (contains_first f fs) in
    let tails : ms ≡ fs = same_sorted ms fs (sorted_tail nat_cmp m ms up) (sorted_tail nat_cmp f fs rise) (omega (arith, same))
    (λ x later. behind_first m f x ms up first (above_first f x fs rise later) (among x (contains_later f x fs later))) in
    elim (member_cases m f ms first) [
      | inl heads ↦ cons_same m f ms fs heads tails
      | inr later ↦ absurd (let more : f < f = above_first f f fs rise (subst (λ (l : List ℕ). Contains l f) tails later) in omega (arith, more))
    ]

pub same_sources : (many few : List ℕ) → IsStrictlyIncreasing many → IsStrictlyIncreasing few → length many ≡ length few
    → ((x : ℕ) → Contains few x → Contains many x) → many ≡ few
same_sources many few up rise same among =
    same_sorted many few (sorted_from_strictly_increasing many up) (sorted_from_strictly_increasing few rise) same among
