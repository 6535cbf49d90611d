-- That it is enough to compare a block with those of equal sources and with the larger holders of one of its sources.
use Rattle.std.proofs.Common.{◌≡◌, ℕ, ◌+◌, ◌<◌, ◌≤◌, Bool, true, false, ◌&&◌, ◌||◌, cond, eqb, List, [], ◌∷◌, ◌++◌, length, map, Option, Some, None, refl, sym, ap, ◌∙◌, subst, arith, inl, inr, ◌⊎◌}
use Rattle.std.specs.Prelude.{pos, Contains, slice_get, nat_lt}
use Rattle.std.specs.List.{list_any}
use Rattle.std.specs.List.Sorted.{IsPermutation}
use Rattle.std.specs.Option.{option_map_or}
use Rattle.std.specs.Ordering.{int_eq}
use Rattle.std.proofs.lemmas.Bool.{true≢false, cases_lt, cases_Bool, and_parts, or_cases, or_left, or_right, eqb-true}
use Rattle.std.proofs.lemmas.Bool.Decides.{nat_tests, Decides-int_eq}
use Rattle.std.proofs.lemmas.Option.{slice_get_within}
use Rattle.std.proofs.lemmas.List.Elements.{Contains-append_left, Contains-append_right}
use Rattle.std.proofs.lemmas.List.Sorted.{Contains-permutation}
use Rattle.base.proofs.Membership.{member_of_any, any_of_member, all_at_member, contains_place, place_of_member, into_map, contains_first}
use Rattle.base.proofs.Bools.{equal_tests}
use Rattle.block_meta.specs.declared.meta.Meta.{Meta}
use Rattle.sync_filters.specs.Filters.{has_all, has_more, is_better, is_covered}
use Rattle.sync_filters.specs.Holders.{holder, AreHolders, HasHoldersOf, HasLargerOf, HasLarger, covers_at, holders_at, each_source, digest_of, digest_alone}
use Rattle.sync_filters.specs.declared.found.Found.{Found}
use Rattle.sync_filters.specs.declared.holders.Holder.{Holder}
use Rattle.sync_filters.proofs.EqualSources.{same_sources}

-- ---- comparisons

passes : {A : Type 0} (test : A → Bool) (o : Option A) → option_map_or test o false ≡ true → (x : A) × (o ≡ Some x) × (test x ≡ true)
passes test None e = absurd (true≢false (sym e))
passes test (Some x) e = (x, refl, e)

-- it has more sources, or as many
more_or_same : (one other : Meta) → has_more one other ≡ true → (length other.sources < length one.sources) ⊎ (length one.sources ≡ length other.sources)
more_or_same one other e = elim (or_cases (nat_lt (length other.sources) (length one.sources)) _ e) [
  | inl more ↦ inl (grind (arith, nat_tests))
  | inr same ↦ inr (eqb-true (length one.sources) (length other.sources) (and_parts (eqb (length one.sources) (length other.sources)) (nat_lt one.ulid other.ulid) same).0)
]

-- what a better block is
record Better (one other : Meta) : Type 0 where
  whole : one.resolution ≡ pos 0
  more : (length other.sources < length one.sources) ⊎ (length one.sources ≡ length other.sources)
  all : (source : ℕ) → Contains other.sources source → Contains one.sources source

pub has_source : (many few : List ℕ) (source : ℕ) → has_all many few ≡ true → Contains few source → Contains many source
has_source many few source all among =
    let some : list_any (λ other. eqb other source) many ≡ true = all_at_member (λ ulid. list_any (λ other. eqb other ulid) many) few source all among in
    let found : (x : ℕ) × Contains many x × (eqb x source ≡ true) = member_of_any (λ other. eqb other source) many some in
    subst (Contains many) (eqb-true found.0 source found.2) found.1

better : (one other : Meta) → is_better one other ≡ true → Better one other
better one other e =
    let last = and_parts (int_eq one.resolution (pos 0) && int_eq other.resolution (pos 0) && has_more one other) (has_all one.sources other.sources) e in
    let third = and_parts (int_eq one.resolution (pos 0) && int_eq other.resolution (pos 0)) (has_more one other) last.0 in
    let first = and_parts (int_eq one.resolution (pos 0)) (int_eq other.resolution (pos 0)) third.0 in
    record {
      whole = (Decides-int_eq one.resolution (pos 0)).0 first.0;
      more = more_or_same one other third.1;
      all = λ source. has_source one.sources other.sources source last.1;
    }

some_member : (xs : List ℕ) → 0 < length xs → (x : ℕ) × Contains xs x
some_member [] lt = absurd (omega (arith, lt))
some_member (x ∷ xs) lt = (x, contains_first x xs)

-- ---- blocks that are looked up

pub better_found : (listed : List Found) (few : List Holder) (block : Found) → list_any (λ one. covers_at listed block one.place) few ≡ true → is_covered listed block ≡ true
better_found listed few block e =
    let one : (h : Holder) × Contains few h × (covers_at listed block h.place ≡ true) = member_of_any (λ h. covers_at listed block h.place) few e in
    let other : (x : Found) × (slice_get listed one.0.place ≡ Some x) × (is_better x.meta block.meta ≡ true) = passes (λ x. is_better x.meta block.meta) (slice_get listed one.0.place) one.2 in
    any_of_member (λ x. is_better x.meta block.meta) listed other.0 (contains_place listed one.0.place other.0 other.1) other.2

-- a better block that is among the few is found there
found_at : (listed : List Found) (few : List Holder) (block other : Found) (place key count : ℕ) → slice_get listed place ≡ Some other → is_better other.meta block.meta ≡ true
    → Contains few (holder key count place) → list_any (λ one. covers_at listed block one.place) few ≡ true
found_at listed few block other place key count at e among =
    any_of_member (λ one. covers_at listed block one.place) few (holder key count place) among
    (ap (λ o. option_map_or (λ x. is_better x.meta block.meta) o false) at ∙ e)

module _ (listed : List Found) (equals holders same larger : List Holder) (block : Found)
    (are_equals : AreHolders digest_alone (length listed) listed equals) (are_holders : AreHolders each_source (length listed) listed holders)
    (has_same : HasHoldersOf equals (digest_of block.meta.sources) same)
    (has_larger : HasLarger holders block.meta.sources larger) where
  found_better : is_covered listed block ≡ true
      → (list_any (λ one. covers_at listed block one.place) same || list_any (λ one. covers_at listed block one.place) larger) ≡ true
  found_better e =
      let other : (x : Found) × Contains listed x × (is_better x.meta block.meta ≡ true) = member_of_any (λ x. is_better x.meta block.meta) listed e in
      let at : (place : ℕ) × (slice_get listed place ≡ Some other.0) = place_of_member listed other.0 other.1 in
      let within : at.0 < length listed = slice_get_within listed at.0 other.0 at.1 in
      let is : Better other.0.meta block.meta = better other.0.meta block.meta other.2 in
      let one = λ (h : Holder). covers_at listed block h.place in
      elim is.more [
        | inl more ↦
            let under : (source : ℕ) → Contains other.0.meta.sources source → Contains holders (holder source (length other.0.meta.sources) at.0) =
            λ source among. are_holders at.0 source other.0 within at.1 is.whole among in
            let some : (source : ℕ) × Contains other.0.meta.sources source = some_member other.0.meta.sources (omega (arith, more)) in
            let found : (key : ℕ) × Contains larger (holder key (length other.0.meta.sources) at.0) =
            has_larger at.0 (length other.0.meta.sources) more (λ source among. under source (is.all source among)) (some.0, under some.0 some.1) in
            or_right (list_any one same) (list_any one larger)
            (found_at listed larger block other.0 at.0 found.0 (length other.0.meta.sources) at.1 other.2 found.1)
        | inr as_many ↦
            let sources : other.0.meta.sources ≡ block.meta.sources = same_sources other.0.meta.sources block.meta.sources other.0.meta.distinct block.meta.distinct as_many is.all in
            or_left (list_any one same) (list_any one larger)
            (found_at listed same block other.0 at.0 (digest_of block.meta.sources) (length other.0.meta.sources) at.1 other.2
            (has_same at.0 (length other.0.meta.sources)
            (are_equals at.0 (digest_of block.meta.sources) other.0 within at.1 is.whole
            (subst (λ (l : List ℕ). Contains (digest_of l ∷ []) (digest_of block.meta.sources)) (sym sources) (contains_first (digest_of block.meta.sources) [])))))
      ]

  pub covered_by_few : (list_any (λ one. covers_at listed block one.place) same || list_any (λ one. covers_at listed block one.place) larger) ≡ is_covered listed block
  covered_by_few = equal_tests _ _
      (λ e. elim (or_cases _ _ e) [ inl left ↦ better_found listed same block left | inr right ↦ better_found listed larger block right ])
      found_better

-- a block of which samples were dropped is not covered
pub no_cover : (listed : List Found) (block : Found) → int_eq block.meta.resolution (pos 0) ≡ false → is_covered listed block ≡ false
no_cover listed block e = elim (cases_Bool (is_covered listed block)) [
  | inl is ↦
      let other : (x : Found) × Contains listed x × (is_better x.meta block.meta ≡ true) = member_of_any (λ x. is_better x.meta block.meta) listed is in
      let last = and_parts (int_eq other.0.meta.resolution (pos 0) && int_eq block.meta.resolution (pos 0) && has_more other.0.meta block.meta) (has_all other.0.meta.sources block.meta.sources) other.2 in
      let third = and_parts (int_eq other.0.meta.resolution (pos 0) && int_eq block.meta.resolution (pos 0)) (has_more other.0.meta block.meta) last.0 in
      let first = and_parts (int_eq other.0.meta.resolution (pos 0)) (int_eq block.meta.resolution (pos 0)) third.0 in
      absurd (true≢false (sym first.1 ∙ e))
  | inr isnt ↦ isnt
]

-- ---- all holders

some_same : (x y : Found) → Some x ≡ Some y → x ≡ y
some_same x y e = cc

-- a block more, under the numbers that its sources give
pub holders_more : (keys : List ℕ → List ℕ) (listed : List Found) (place : ℕ) (one : Found) (made more : List Holder) → slice_get listed place ≡ Some one
    → more ≡ made ++ holders_at keys place one → AreHolders keys place listed made → AreHolders keys (place + 1) listed more
holders_more keys listed place one made more at e are p key block below found whole among = subst (λ (l : List Holder). Contains l (holder key (length block.meta.sources) p)) (sym e) (elim (cases_lt p place) [
  | inl before ↦ Contains-append_left made (holders_at keys place one) (holder key (length block.meta.sources) p) (are p key block before found whole among)
  | inr behind ↦
      let here : p ≡ place = omega (arith, below, behind) in
      let same : block ≡ one = some_same block one (sym found ∙ ap (slice_get listed) here ∙ at) in
      let is : int_eq one.meta.resolution (pos 0) ≡ true = (Decides-int_eq one.meta.resolution (pos 0)).1 (subst (λ (b : Found). b.meta.resolution ≡ pos 0) same whole) in
      let all : holders_at keys place one ≡ map (λ k. holder k (length one.meta.sources) place) (keys one.meta.sources) =
      ap (λ b. cond b (map (λ k. holder k (length one.meta.sources) place) (keys one.meta.sources)) []) is in
      Contains-append_right made (holders_at keys place one) (holder key (length block.meta.sources) p)
      (subst (λ n. Contains (holders_at keys place one) (holder key (length block.meta.sources) n)) (sym here)
      (subst (λ (b : Found). Contains (holders_at keys place one) (holder key (length b.meta.sources) place)) (sym same)
      (subst (λ (l : List Holder). Contains l (holder key (length one.meta.sources) place)) (sym all)
      (into_map (λ k. holder k (length one.meta.sources) place) (keys one.meta.sources) key (subst (λ (b : Found). Contains (keys b.meta.sources) key) same among)))))
])

pub holders_sorted : (keys : List ℕ → List ℕ) (listed : List Found) (end : ℕ) (made sorted : List Holder) → length listed ≤ end → AreHolders keys end listed made → IsPermutation made sorted
    → AreHolders keys (length listed) listed sorted
holders_sorted keys listed end made sorted enough are same place key block below at whole among =
    Contains-permutation made sorted (holder key (length block.meta.sources) place) same (are place key block (omega (arith, below, enough)) at whole among)

-- ---- the larger holders

-- those of one source are enough
pub larger_one : (holders few : List Holder) (sources : List ℕ) (source key : ℕ) → Contains sources source → key ≡ source → HasLargerOf holders (length sources) key few
    → HasLarger holders sources few
larger_one holders few sources source key among same has place count more all some =
    (key, has place count more (subst (λ k. Contains holders (holder k count place)) (sym same) (all source among)))

-- ---- what a block is covered by

pub some_cover : (r : Bool) (listed : List Found) (equals holders same larger : List Holder) (block : Found)
    → AreHolders digest_alone (length listed) listed equals → AreHolders each_source (length listed) listed holders
    → (digest : ℕ) → digest ≡ digest_of block.meta.sources → HasHoldersOf equals digest same
    → HasLarger holders block.meta.sources larger
    → (first : Bool) → first ≡ list_any (λ one. covers_at listed block one.place) same → first ≡ false → r ≡ list_any (λ one. covers_at listed block one.place) larger
    → r ≡ is_covered listed block
some_cover r listed equals holders same larger block are_equals are_holders digest is has_same has_larger first e none f =
    f ∙ sym (ap (λ b. b || list_any (λ one. covers_at listed block one.place) larger) (sym e ∙ none))
    ∙ covered_by_few listed equals holders same larger block are_equals are_holders (subst (λ d. HasHoldersOf equals d same) is has_same) has_larger
