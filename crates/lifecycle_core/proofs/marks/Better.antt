-- Of two blocks that a view keeps neither has all sources of the other.
use Rattle.base.proofs.Lists.{cons_same}
use Rattle.base.proofs.Membership.{all_of_members, any_of_member, contains_first, contains_later, member_cases, member_passes, no_member, of_filter}
use Rattle.base.proofs.Rising.{above_first}
use Rattle.std.proofs.Common.{◌≡◌, ◌≢◌, ◌⊎◌, inl, inr, ℕ, ◌<◌, ◌==◌, Bool, true, false, ◌&&◌, not, List, [], ◌∷◌, filter, length, Contains, refl, sym, ap, subst, arith, nat_cmp}
use Rattle.std.specs.Prelude.{nat_lt, pos}
use Rattle.std.specs.Ordering.{int_eq}
use Rattle.std.specs.List.{list_any}
use Rattle.std.specs.List.Sorted.{IsStrictlyIncreasing, IsStrictlySortedBy}
use Rattle.std.proofs.lemmas.Bool.{and_from, cases_Bool, eq-eqb, or_left, or_right, true≢false}
use Rattle.std.proofs.lemmas.Bool.Decides.{Decides-int_eq, nat_tests}
use Rattle.std.proofs.lemmas.Map.Keys.{sorted_from_strictly_increasing, sorted_tail}
use Rattle.block_meta.specs.declared.meta.Meta.{Meta}
use Rattle.world_core.specs.declared.entry.Entry.{Entry}
use Rattle.sync_filters.specs.Filters.{has_all, has_more, is_better, is_covered}
use Rattle.sync_filters.specs.declared.found.Found.{Found}
use Rattle.meta_fetcher.specs.Sightings.{passed_by}
use Rattle.meta_fetcher.specs.declared.rules.SyncRules.{SyncRules}
use Rattle.meta_fetcher.specs.declared.view.View.{View}
use Rattle.lifecycle_core.specs.Sights.{IsSight}

-- ---- ascending lists

-- what is above the first one stands behind it
behind : (m x : ℕ) (ms : List ℕ) → m < x → Contains (m ∷ ms) x → Contains ms x
behind m x ms higher among = elim (member_cases m x ms among) [
  | inl same ↦ absurd (omega (arith, same, higher))
  | inr later ↦ later
]

-- a list all of whose members are members of another one is shorter, or it is that one
sorted_within : (few many : List ℕ) → IsStrictlySortedBy nat_cmp few → IsStrictlySortedBy nat_cmp many → ((x : ℕ) → Contains few x → Contains many x) → (length few < length many) ⊎ (few ≡ many)
sorted_within [] [] up rise among = inr refl
sorted_within [] (m ∷ ms) up rise among = inl (omega arith)
sorted_within (f ∷ fs) [] up rise among = absurd (no_member f (among f (contains_first f fs)))
sorted_within (f ∷ fs) (m ∷ ms) up rise among = elim (member_cases m f ms (among f (contains_first f fs))) [
  | inl heads ↦ elim (sorted_within fs ms (sorted_tail nat_cmp f fs up) (sorted_tail nat_cmp m ms rise) (λ x later. behind m x ms (let more : f < x = above_first f x fs up later in omega (arith, heads, more)) (among x (contains_later f x fs later)))) [
    | inl less ↦ inl (omega (arith, less))
    | inr same ↦ inr (cons_same f m fs ms (sym heads) same)
  ]
  | inr higher ↦ elim (sorted_within (f ∷ fs) ms up (sorted_tail nat_cmp m ms rise) (λ x inside. behind m x ms (reach x (above_first m f ms rise higher) (member_cases f x fs inside)) (among x inside))) [
    | inl less ↦ inl (omega (arith, less))
    | inr same ↦ inl (let long : length (f ∷ fs) ≡ length ms = ap length same in omega (arith, long))
  ]
]
  where
    reach : (x : ℕ) → m < f → (f ≡ x) ⊎ Contains fs x → m < x
    reach x below (inl same) = omega (arith, below, same)
    reach x below (inr later) = let more : f < x = above_first f x fs up later in omega (arith, below, more)

pub fewer_or_same : (few many : List ℕ) → IsStrictlyIncreasing few → IsStrictlyIncreasing many → ((x : ℕ) → Contains few x → Contains many x) → (length few < length many) ⊎ (few ≡ many)
fewer_or_same few many up rise among = sorted_within few many (sorted_from_strictly_increasing few up) (sorted_from_strictly_increasing many rise) among

-- ---- better blocks

less_test : (a b : ℕ) → a < b → nat_lt a b ≡ true
less_test a b less = grind (arith, nat_tests, less)

not_less : (a b : ℕ) → nat_lt a b ≡ false → nat_lt b a ≡ false → a ≡ b
not_less a b one other = grind (arith, nat_tests, one, other)

better_by : (one other : Meta) → one.resolution ≡ pos 0 → other.resolution ≡ pos 0 → has_more one other ≡ true → ((u : ℕ) → Contains other.sources u → Contains one.sources u) → is_better one other ≡ true
better_by one other whole also more within =
    let own = (Decides-int_eq one.resolution (pos 0)).1 whole in
    let its = (Decides-int_eq other.resolution (pos 0)).1 also in
    let all : has_all one.sources other.sources ≡ true = all_of_members (λ ulid. list_any (λ source. source == ulid) one.sources) other.sources (λ u among. any_of_member (λ source. source == u) one.sources u (within u among) (eq-eqb u u refl)) in
    and_from (int_eq one.resolution (pos 0) && int_eq other.resolution (pos 0) && has_more one other) (has_all one.sources other.sources)
    (and_from (int_eq one.resolution (pos 0) && int_eq other.resolution (pos 0)) (has_more one other) (and_from (int_eq one.resolution (pos 0)) (int_eq other.resolution (pos 0)) own its) more) all

module _ (rules : SyncRules) (entries : List Entry) (view : View) (sight : IsSight rules entries view) where
  abbrev passed : List Found
  passed = passed_by rules sight.found

  abbrev keeps : Found → Bool
  keeps f = not (is_covered passed f)

  kept_within : (f : Found) → Contains view.kept f → Contains (filter keeps passed) f
  kept_within f among = subst (λ fs. Contains fs f) sight.kept among

  none_better : (f g : Found) → Contains view.kept f → Contains view.kept g → is_better g.meta f.meta ≡ true → ⊥
  none_better f g one other better =
      let no : keeps f ≡ true = member_passes keeps passed f (kept_within f one) in
      let covered : is_covered passed f ≡ true = any_of_member (λ (o : Found). is_better o.meta f.meta) passed g (of_filter keeps passed g (kept_within g other)) better in
      true≢false (sym (subst (λ (b : Bool). not b ≡ true) covered no))

  pub none_within : (f g : Found) → Contains view.kept f → Contains view.kept g → f.meta.resolution ≡ pos 0 → g.meta.resolution ≡ pos 0 → g.meta.ulid ≢ f.meta.ulid
      → ((u : ℕ) → Contains g.meta.sources u → Contains f.meta.sources u) → ⊥
  none_within f g one other whole also apart within = elim (fewer_or_same g.meta.sources f.meta.sources g.meta.distinct f.meta.distinct within) [
    | inl fewer ↦ none_better g f other one (better_by f.meta g.meta whole also (or_left (nat_lt (length g.meta.sources) (length f.meta.sources)) _ (less_test _ _ fewer)) within)
    | inr same ↦ elim (cases_Bool (nat_lt f.meta.ulid g.meta.ulid)) [
      | inl below ↦ none_better g f other one (better_by f.meta g.meta whole also (as_many f.meta g.meta (ap length (sym same)) below) within)
      | inr not_below ↦ elim (cases_Bool (nat_lt g.meta.ulid f.meta.ulid)) [
        | inl below ↦ none_better f g one other (better_by g.meta f.meta also whole (as_many g.meta f.meta (ap length same) below) (λ u among. subst (λ us. Contains us u) (sym same) among))
        | inr not_above ↦ apart (not_less g.meta.ulid f.meta.ulid not_above not_below)
      ]
    ]
  ]
    where
      as_many : (a b : Meta) → length a.sources ≡ length b.sources → nat_lt a.ulid b.ulid ≡ true → has_more a b ≡ true
      as_many a b equal below = or_right (nat_lt (length b.sources) (length a.sources)) _ (and_from (length a.sources == length b.sources) (nat_lt a.ulid b.ulid) (eq-eqb (length a.sources) (length b.sources) equal) below)
