-- What the pages of a walk list: a name that each page has to show is listed in the end, and the names of blocks are read again.
use Rattle.base.proofs.Membership.{contains_first, contains_later}
use Rattle.std.proofs.Common.{◌≡◌, ◌⊎◌, inl, inr, ℕ, ◌<◌, ◌^◌, suc, zero, true, List, [], ◌∷◌, ◌++◌, length, Contains, Option, Some, None, Ok, refl, sym, ◌∙◌, ap, subst, arith}
use Rattle.std.specs.Prelude.{unwrap_or}
use Rattle.std.specs.List.{All, cons_option, last_or}
use Rattle.std.specs.Ordering.{is_lt}
use Rattle.std.specs.Result.{result_ok}
use Rattle.std.proofs.lemmas.Bool.{and_from}
use Rattle.std.proofs.lemmas.List.Elements.{All-head, All-tail, Contains-append_left, Contains-append_right}
use Rattle.base.specs.Order.{InOrderAfter, ComesAfter, are_in_order_after, comes_after}
use Rattle.ulid_core.specs.UlidText.{text_of, ulid_of}
use Rattle.ulid_core.proofs.UlidLaws.{IsUlidText-text_of, length-text_of, ulid_of-only}
use Rattle.label_sets.specs.Labels.{ComesBefore, compare_texts}
use Rattle.world_core.specs.Walks.{last_listed, ulids_in}

-- ---- the order of names

pub after_option : (before : Option (List ℕ)) (name : List ℕ) → ComesBefore (unwrap_or before []) name → comes_after compare_texts before name ≡ true
after_option None name less = refl
after_option (Some x) name less = ap is_lt less

-- names that ascend after the last one listed pass the walk's test
pub ascends_after : (before : Option (List ℕ)) (names : List (List ℕ)) → InOrderAfter (ComesAfter compare_texts) (Some (unwrap_or before [])) names → are_in_order_after (comes_after compare_texts) before names ≡ true
ascends_after before [] up = refl
ascends_after before (name ∷ names) up = and_from (comes_after compare_texts before name) (are_in_order_after (comes_after compare_texts) (Some name) names) (after_option before name up.0) (ascends_after (Some name) names up.1)

nil_before : (name : List ℕ) → 0 < length name → ComesBefore [] name
nil_before [] some = absurd (omega (arith, some))
nil_before (x ∷ name) some = refl

-- at first each block is still to be listed
pub before_first_page : (ulid : ℕ) → ComesBefore [] (text_of ulid)
before_first_page ulid = nil_before (text_of ulid) (omega (arith, length-text_of ulid))

last_joined : (o : Option (List ℕ)) (xs ys : List (List ℕ)) → last_or o (xs ++ ys) ≡ last_or (last_or o xs) ys
last_joined o [] ys = refl
last_joined o (x ∷ xs) ys = last_joined (Some x) xs ys

last_before : (o : Option (List ℕ)) (names : List (List ℕ)) (name : List ℕ) → ComesBefore (unwrap_or o []) name → All (λ x. ComesBefore x name) names → ComesBefore (unwrap_or (last_or o names) []) name
last_before o [] name less all = less
last_before o (x ∷ names) name less all = last_before (Some x) names name (All-head (λ y. ComesBefore y name) x names all) (All-tail (λ y. ComesBefore y name) x names all)

-- A name that is after all that were listed and after those of the page is still to be listed.
pub still_before : (listed names : List (List ℕ)) (name : List ℕ) → ComesBefore (unwrap_or (last_listed listed) []) name → All (λ x. ComesBefore x name) names → ComesBefore (unwrap_or (last_listed (listed ++ names)) []) name
still_before listed names name less all = subst (λ o. ComesBefore (unwrap_or o []) name) (sym (last_joined None listed names)) (last_before (last_listed listed) names name less all)

-- ---- a name that is to be listed

-- it is among those that were listed, or after them
abbrev pub IsToBeListed : List (List ℕ) → List ℕ → Type 0
IsToBeListed listed name = Contains listed name ⊎ ComesBefore (unwrap_or (last_listed listed) []) name

-- what a page of that limit has to show
abbrev pub IsOnPage : ℕ → List (List ℕ) → List ℕ → Type 0
IsOnPage limit names name = Contains names name ⊎ ((length names ≡ limit) × All (λ x. ComesBefore x name) names)

pub listed_on : (limit : ℕ) (listed names : List (List ℕ)) (name : List ℕ) → (ComesBefore (unwrap_or (last_listed listed) []) name → IsOnPage limit names name)
    → IsToBeListed listed name → IsToBeListed (listed ++ names) name
listed_on limit listed names name page (inl among) = inl (Contains-append_left listed names name among)
listed_on limit listed names name page (inr less) =
    elim (page less) [
      | inl among ↦ inl (Contains-append_right listed names name among)
      | inr full ↦ inr (still_before listed names name less full.1)
    ]

-- a page that is not full is the last one
pub listed_at_last : (limit : ℕ) (listed names : List (List ℕ)) (name : List ℕ) → (ComesBefore (unwrap_or (last_listed listed) []) name → IsOnPage limit names name) → length names < limit
    → IsToBeListed listed name → Contains (listed ++ names) name
listed_at_last limit listed names name page few (inl among) = Contains-append_left listed names name among
listed_at_last limit listed names name page few (inr less) =
    elim (page less) [
      | inl among ↦ Contains-append_right listed names name among
      | inr full ↦ absurd (omega (arith, few, full.0))
    ]

-- ---- ULIDs among names

text_read : (ulid : ℕ) → ulid < 2 ^ 128 → ulid_of (text_of ulid) ≡ Ok ulid
text_read ulid small = ulid_of-only (text_of ulid) ulid (IsUlidText-text_of ulid small)

one_among : (o : Option ℕ) (ulids : List ℕ) (ulid : ℕ) → o ≡ Some ulid → Contains (cons_option o ulids) ulid
one_among None ulids ulid is = absurd (cc (is))
one_among (Some x) ulids ulid is = let same : x ≡ ulid = cc (is) in subst (λ y. Contains (y ∷ ulids) ulid) (sym same) (contains_first ulid ulids)

more_among : (o : Option ℕ) (ulids : List ℕ) (ulid : ℕ) → Contains ulids ulid → Contains (cons_option o ulids) ulid
more_among None ulids ulid among = among
more_among (Some x) ulids ulid among = contains_later x ulid ulids among

-- a block whose name was listed is among those of the names
pub ulid_listed : (names : List (List ℕ)) (ulid : ℕ) → ulid < 2 ^ 128 → Contains names (text_of ulid) → Contains (ulids_in names) ulid
ulid_listed [] ulid small (k, below, is) = absurd (omega (arith, below))
ulid_listed (name ∷ names) ulid small (zero, below, is) =
    one_among (result_ok (ulid_of name)) (ulids_in names) ulid (ap (λ x. result_ok (ulid_of x)) is ∙ ap result_ok (text_read ulid small))
ulid_listed (name ∷ names) ulid small (suc k, below, is) =
    more_among (result_ok (ulid_of name)) (ulids_in names) ulid (ulid_listed names ulid small (k, omega (arith, below), is))
