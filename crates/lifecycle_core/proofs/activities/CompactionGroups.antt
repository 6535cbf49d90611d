-- The groups of a view's blocks: a block is a member of one at most, what is planned is of members, and no member is covered.
use Rattle.std.proofs.Common.{◌≡◌, ◌≢◌, inl, inr, ℕ, ℤ, ◌-◌, ◌<◌, Bool, true, false, cond, not, eqb, List, [], ◌∷◌, ◌++◌, map, take, drop, length, Contains, Option, Some, None, Result, Ok, Err, refl, sym, ◌∙◌, ap, subst, arith, Less, nat_cmp, take-append-drop}
use Rattle.std.specs.declared.cmp.Ordering.TheVariants.{Equal}
use Rattle.std.specs.Option.{option_map_or}
use Rattle.std.specs.List.{AllByRecursion, filter, find}
use Rattle.std.specs.List.Sorted.{IsStrictlyIncreasing, IsStrictlySortedBy}
use Rattle.std.proofs.lemmas.Bool.{true≢false, eqb-true}
use Rattle.std.proofs.lemmas.List.Elements.{All-contains, All-from_recursion, Contains-append_left, Contains-append_right, Contains-push}
use Rattle.std.proofs.lemmas.Map.Keys.{sorted_from_strictly_increasing, sorted_head, sorted_tail}
use Rattle.base.proofs.Bools.{lt-from_Less, Equal-from_is_eq}
use Rattle.base.proofs.Lists.{AllByRecursion-append, AllByRecursion-map, find_holds}
use Rattle.base.proofs.Membership.{each_member, all_members, into_map, member_cases, member_passes, no_member, of_filter, of_in_order, of_map}
use Rattle.base.proofs.Options.{tested_some}
use Rattle.block_meta.specs.MetaFields.{MetaFields, fields_of}
use Rattle.block_meta.specs.OfBlocks.{named_meta}
use Rattle.block_meta.specs.declared.meta.Meta.{Meta}
use Rattle.block_meta.specs.declared.refusal.MetaRefusal.{MetaRefusal}
use Rattle.compactor.specs.FoundNames.{names_of}
use Rattle.world_core.specs.declared.entry.Entry.{Entry}
use Rattle.sync_filters.specs.Filters.{is_consistent, is_covered, is_in_partition, is_unmarked}
use Rattle.sync_filters.specs.declared.found.Found.{Found}
use Rattle.meta_fetcher.specs.Sightings.{IsView, Sighting, kept_by, passed_by}
use Rattle.meta_fetcher.specs.Syncs.{SightingsAscend, Course, IsEnd, SyncRun, Synced}
use Rattle.meta_fetcher.specs.Syncs as sync_told
use Rattle.meta_fetcher.specs.declared.rules.SyncRules.{SyncRules}
use Rattle.meta_fetcher.specs.declared.sync.SyncEnd.TheVariants as fetched
use Rattle.meta_fetcher.specs.declared.view.View.{View}
use Rattle.meta_fetcher.proofs.Ascending.{blocks_of, passed_ascend, sighted_ascend, sync_ascends}
use Rattle.group_planner.specs.Groups.{AreGroups, Key, compare_keys, group_of, has_key, key_of, comes_before}
use Rattle.group_planner.specs.Overlaps.{IsOverlapPlan}
use Rattle.group_planner.specs.Parts.{AreParts}
use Rattle.group_planner.specs.Plans.{IsPlan, without_last}
use Rattle.group_planner.specs.Selections.{AreCandidates, Candidate, IsSelection, is_wanted, last_begin, ranges}
use Rattle.group_planner.specs.declared.group.Group.{Group}
use Rattle.group_planner.proofs.KeyOrders.{keys_total}
use Rattle.compactor.specs.Compactions.{metas_of}
use Rattle.lifecycle_core.specs.CompactionOps.{IsKept}
use Rattle.lifecycle_core.specs.Sights.{IsSeen, IsSight}
use Rattle.lifecycle_core.proofs.activities.SyncSights.{sync_sight}

-- ---- plans

-- all of the one are among the other
abbrev AreAmong : List Meta → List Meta → Type 0
AreAmong members few = (m : Meta) → Contains few m → Contains members m

overlap_among : (members overlap : List Meta) → IsOverlapPlan members overlap → AreAmong members overlap
overlap_among members [] is m among = absurd (no_member m among)
overlap_among members (first ∷ run) is m among =
    subst (λ (ms : List Meta). Contains ms m) (sym is.are) (elim (member_cases first m run among) [
      | inl same ↦ Contains-append_left (is.front ++ first ∷ []) (run ++ is.behind) m (subst (Contains (is.front ++ first ∷ [])) same (Contains-push is.front first))
      | inr later ↦ Contains-append_right (is.front ++ first ∷ []) (run ++ is.behind) m (Contains-append_left run is.behind m later)
    ])

parts_among : (range : ℤ) (members : List Meta) (parts : List (List Meta)) → AreParts range members parts → AllByRecursion (AreAmong members) parts
parts_among range members [] are = tt
parts_among range members (part ∷ parts) (behind, next, rest) = (
  (λ m among. subst (λ (ms : List Meta). Contains ms m) (sym next.are) (Contains-append_right next.passed (part ++ behind) m (Contains-append_left part behind m among))),
  later parts (parts_among range behind parts rest),
)
  where
    later : (ps : List (List Meta)) → AllByRecursion (AreAmong behind) ps → AllByRecursion (AreAmong members) ps
    later [] all = tt
    later (p ∷ ps) all = (
      (λ m among. subst (λ (ms : List Meta). Contains ms m) (sym next.are) (Contains-append_right next.passed (part ++ behind) m (Contains-append_right part behind m (all.0 m among)))),
      later ps all.1,
    )

candidates_among : (those : List ℤ) (members : List Meta) (candidates : List Candidate) → AreCandidates those members candidates → AllByRecursion (λ c. AreAmong members c.part) candidates
candidates_among [] members candidates are = subst (λ (cs : List Candidate). AllByRecursion (λ c. AreAmong members c.part) cs) (sym are) tt
candidates_among (range ∷ those) members candidates (parts, others, each, rest, are) =
    subst (λ (cs : List Candidate). AllByRecursion (λ c. AreAmong members c.part) cs) (sym are)
    (AllByRecursion-append (λ (c : Candidate). AreAmong members c.part) (map (λ part. record { range = range; part = part }) parts) others
    (AllByRecursion-map (AreAmong members) (λ (c : Candidate). AreAmong members c.part) (λ part. record { range = range; part = part }) (λ part all. all) parts (parts_among range members parts each))
    (candidates_among those members others rest))

part_among : (members : List Meta) (o : Option Candidate) → ((c : Candidate) → o ≡ Some c → AreAmong members c.part) → AreAmong members (option_map_or (λ candidate. candidate.part) o [])
part_among members None all m among = absurd (no_member m among)
part_among members (Some c) all m among = all c refl m among

selection_among : (members selected : List Meta) → IsSelection members selected → AreAmong members selected
selection_among members selected is =
    subst (AreAmong members) (sym is.first)
    (part_among members (find (is_wanted (last_begin members)) is.candidates)
    (λ c found. find_holds (λ (c : Candidate). AreAmong members c.part) (is_wanted (last_begin members)) is.candidates c
    (All-from_recursion (λ (c : Candidate). AreAmong members c.part) is.candidates (candidates_among ranges members is.candidates is.listed)) found))

one_of : (members one other : List Meta) (b : Bool) → AreAmong members one → AreAmong members other → AreAmong members (cond b one other)
one_of members one other true a c = a
one_of members one other false a c = c

-- what is planned is of members
pub plan_among : (members plan : List Meta) → IsPlan members plan → (m : Meta) → Contains plan m → Contains members m
plan_among members plan is =
    subst (AreAmong members) (sym is.first)
    (one_of members is.selected is.overlap (eqb (length is.overlap) 0)
    (λ m among.
    let few : Contains (without_last members) m = selection_among (without_last members) is.selected is.is_selection m among in
    subst (λ (ms : List Meta). Contains ms m) (take-append-drop (length members - 1) members) (Contains-append_left (take (length members - 1) members) (drop (length members - 1) members) m few))
    (overlap_among members is.overlap is.is_overlap))

-- ---- the blocks of a view

same_ulid : (blocks : List Found) → IsStrictlySortedBy nat_cmp (blocks_of blocks) → (one other : Found) → Contains blocks one → Contains blocks other → one.ulid ≡ other.ulid → one ≡ other
same_ulid [] up one other a b is = absurd (no_member one a)
same_ulid (block ∷ blocks) up one other a b is = elim (member_cases block one blocks a) [
  | inl first ↦ elim (member_cases block other blocks b) [
    | inl also ↦ sym first ∙ also
    | inr later ↦ absurd (apart other later (ap (λ (f : Found). f.ulid) first ∙ is))
  ]
  | inr later ↦ elim (member_cases block other blocks b) [
    | inl first ↦ absurd (apart one later (ap (λ (f : Found). f.ulid) first ∙ sym is))
    | inr also ↦ same_ulid blocks (sorted_tail nat_cmp block.ulid (blocks_of blocks) up) one other later also is
  ]
]
  where
    apart : (f : Found) → Contains blocks f → block.ulid ≡ f.ulid → ⊥
    apart f among same =
        let above : block.ulid < f.ulid =
        lt-from_Less block.ulid f.ulid (each_member (λ x. nat_cmp block.ulid x ≡ Less) (blocks_of blocks) f.ulid (sorted_head nat_cmp block.ulid (blocks_of blocks) up) (into_map (λ (b : Found). b.ulid) blocks f among)) in
        omega (arith, above, same)

-- The view's blocks are of such that passed, the ULIDs of which ascend; and each meta that is kept names its block.
pub record IsOfPassed (view : View) : Type 0 where
  pub passed : List Found
  pub rise : IsStrictlySortedBy nat_cmp (blocks_of passed)
  pub kept : view.kept ≡ filter (λ block. not (is_covered passed block)) passed
  pub covered : view.covered ≡ filter (is_covered passed) passed
  pub named : (f : Found) → Contains view.kept f → f.meta.ulid ≡ f.ulid

pub named_is : (ulid : ℕ) (r : Result MetaFields MetaRefusal) (meta : MetaFields) → named_meta ulid r ≡ Some meta → meta.ulid ≡ ulid
named_is ulid (Ok own) meta is =
    let parts = tested_some (eqb own.ulid ulid) (Some own) meta is in
    let same : own ≡ meta = cc (parts.1) in
    ap (λ (m : MetaFields). m.ulid) (sym same) ∙ eqb-true own.ulid ulid parts.0
named_is ulid (Err refusal) meta is = absurd (cc (is))

seen_named : (entries : List Entry) (f : Found) → IsSeen entries f → f.meta.ulid ≡ f.ulid
seen_named entries f seen = named_is f.ulid _ (fields_of f.meta) seen.meta_is

pub of_passed : (rules : SyncRules) (found : List Found) (f : Found) → Contains (kept_by rules found) f → Contains found f
of_passed rules found f among =
    let in_time : List Found = filter (λ block. is_in_partition block.meta rules.partition) found in
    let old : List Found = filter (λ block. is_consistent block rules.consistency) in_time in
    of_filter (λ (block : Found). is_in_partition block.meta rules.partition) found f
    (of_filter (λ (block : Found). is_consistent block rules.consistency) in_time f
    (of_filter (λ (block : Found). is_unmarked block rules.mark_delay) old f (of_filter (λ (block : Found). not (is_covered (passed_by rules found) block)) (passed_by rules found) f among)))

kept_named : (rules : SyncRules) (entries : List Entry) (view : View) → IsSight rules entries view → (f : Found) → Contains view.kept f → f.meta.ulid ≡ f.ulid
kept_named rules entries view sight f among =
    seen_named entries f (All-contains (IsSeen entries) sight.found f sight.seen (of_passed rules sight.found f (subst (λ (fs : List Found). Contains fs f) sight.kept among)))

module _ (rules : SyncRules) (entries : List Entry) (view : View) where
  by_view : (course : Course) (sightings : List Sighting) → IsStrictlyIncreasing (map (λ sighting. sighting.ulid) sightings) → (other : View) → other ≡ view → IsView rules course.first course.begin course.end sightings other
      → ((f : Found) → Contains view.kept f → f.meta.ulid ≡ f.ulid) → IsOfPassed view
  by_view course sightings up other same v named =
      let rise : IsStrictlyIncreasing (blocks_of v.found) = sighted_ascend v.found (subst (λ (ss : List Sighting). IsStrictlyIncreasing (map (λ sighting. sighting.ulid) ss)) (sym v.sighted) up) in
      record {
        passed = passed_by rules v.found;
        rise = sorted_from_strictly_increasing (blocks_of (passed_by rules v.found)) (passed_ascend rules v.found rise);
        kept = ap (λ (w : View). w.kept) (sym same) ∙ v.kept;
        covered = ap (λ (w : View). w.covered) (sym same) ∙ v.covered;
        named = named;
      }

  by_end : (last : Synced) (course : Option Course) → SightingsAscend (last, course) → IsEnd rules (last, course) (fetched.View view) → ((f : Found) → Contains view.kept f → f.meta.ulid ≡ f.ulid) → IsOfPassed view
  by_end (sync_told.sighted sightings) (Some course) up (other, is, v) named = by_view course sightings up other (cc (is)) v named
  by_end (sync_told.sighted sightings) None up is named = absurd is
  by_end (sync_told.fault number) course up is named = absurd (cc (is))
  by_end (sync_told.damaged number) course up is named = absurd (cc (is))
  by_end sync_told.too_many course up is named = absurd (cc (is))

  pub of_sync : SyncRun rules entries (Some (fetched.View view)) → IsOfPassed view
  of_sync ((last, course), run, is) =
      by_end last course (sync_ascends rules entries (last, course) run) is (kept_named rules entries view (sync_sight rules entries view ((last, course), run, is)))

-- ---- groups

-- no member of these groups is the block
abbrev pub IsOfNone : List Group → ℕ → Type 0
IsOfNone groups ulid = AllByRecursion (λ group. (m : Meta) → Contains group.members m → m.ulid ≢ ulid) groups

-- no block is a member of two of them
abbrev pub AreApart : List Group → Type 0
AreApart [] = Unit {0}
AreApart (group ∷ groups) = ((m : Meta) → Contains group.members m → IsOfNone groups m.ulid) × AreApart groups

module _ (replicas : List (List ℕ)) (view : View) (of : IsOfPassed view) where
  abbrev metas : List Meta
  metas = metas_of view.kept

  -- the block of a meta that is kept
  kept_of : (m : Meta) → Contains metas m → (found : Found) × Contains view.kept found × (found.meta ≡ m) × (found.ulid ≡ m.ulid)
  kept_of m among =
      let one = of_map (λ (f : Found). f.meta) view.kept m among in
      (one.0, one.1, one.2, sym (of.named one.0 one.1) ∙ ap (λ (x : Meta). x.ulid) one.2)

  kept_passed : (f : Found) → Contains view.kept f → Contains of.passed f
  kept_passed f among = of_filter (λ (block : Found). not (is_covered of.passed block)) of.passed f (subst (λ (fs : List Found). Contains fs f) of.kept among)

  same_meta : (one other : Meta) → Contains metas one → Contains metas other → one.ulid ≡ other.ulid → one ≡ other
  same_meta one other a b same =
      let f = kept_of one a in
      let g = kept_of other b in
      let blocks : f.0 ≡ g.0 = same_ulid of.passed of.rise f.0 g.0 (kept_passed f.0 f.1) (kept_passed g.0 g.1) (f.3 ∙ same ∙ sym g.3) in
      sym f.2 ∙ ap (λ (x : Found). x.meta) blocks ∙ g.2

  member_kept : (k : Key) (m : Meta) → Contains (group_of replicas metas k).members m → Contains metas m
  member_kept k m among = of_filter (has_key replicas k) metas m (of_in_order comes_before m (filter (has_key replicas k) metas) among)

  member_key : (k : Key) (m : Meta) → Contains (group_of replicas metas k).members m → compare_keys (key_of replicas m) k ≡ Equal
  member_key k m among = Equal-from_is_eq (compare_keys (key_of replicas m) k) (member_passes (has_key replicas k) metas m (of_in_order comes_before m (filter (has_key replicas k) metas) among))

  of_none : (k : Key) (m : Meta) → Contains (group_of replicas metas k).members m → (keys : List Key) → AllByRecursion (λ other. compare_keys k other ≡ Less) keys → IsOfNone (map (group_of replicas metas) keys) m.ulid
  of_none k m among [] above = tt
  of_none k m among (other ∷ keys) above = (
    (λ n also same.
        let one : n ≡ m = same_meta n m (member_kept other n also) (member_kept k m among) same in
        let less : compare_keys (key_of replicas m) other ≡ Less = keys_total.congr (key_of replicas m) k other (member_key k m among) ∙ above.0 in
        let equal : compare_keys (key_of replicas m) other ≡ Equal = subst (λ (x : Meta). compare_keys (key_of replicas x) other ≡ Equal) one (member_key other n also) in
        let no : Less ≡ Equal = sym less ∙ equal in cc (no)),
    of_none k m among keys above.1,
  )

  apart_by : (keys : List Key) → IsStrictlySortedBy compare_keys keys → AreApart (map (group_of replicas metas) keys)
  apart_by [] up = tt
  apart_by (k ∷ keys) up = ((λ m among. of_none k m among keys (sorted_head compare_keys k keys up)), apart_by keys (sorted_tail compare_keys k keys up))

  module _ (groups : List Group) (are : AreGroups replicas metas groups) where
    pub groups_apart : AreApart groups
    groups_apart = subst AreApart (sym are.are) (apart_by are.keys are.ascending)

    group_kept : (group : Group) → Contains groups group → (m : Meta) → Contains group.members m → Contains metas m
    group_kept group among m own =
        let k = of_map (group_of replicas metas) are.keys group (subst (λ (gs : List Group). Contains gs group) are.are among) in
        member_kept k.0 m (subst (λ (g : Group). Contains g.members m) (sym k.2) own)

    -- each member is of a block that the view keeps
    pub member_found : (group : Group) → Contains groups group → (m : Meta) → Contains group.members m → (found : Found) × IsKept view m.ulid found
    member_found group among m own = let f = kept_of m (group_kept group among m own) in (f.0, (f.1, f.3))

    not_covered : (f g : Found) → Contains view.kept f → Contains view.covered g → f.ulid ≡ g.ulid → ⊥
    not_covered f g kept covered same =
        let two : Contains of.passed g = of_filter (is_covered of.passed) of.passed g (subst (λ (fs : List Found). Contains fs g) of.covered covered) in
        let one : f ≡ g = same_ulid of.passed of.rise f g (kept_passed f kept) two same in
        let no : not (is_covered of.passed f) ≡ true = member_passes (λ (block : Found). not (is_covered of.passed block)) of.passed f (subst (λ (fs : List Found). Contains fs f) of.kept kept) in
        let yes' : is_covered of.passed g ≡ true = member_passes (is_covered of.passed) of.passed g (subst (λ (fs : List Found). Contains fs g) of.covered covered) in
        let both : not true ≡ true = subst (λ (b : Bool). not b ≡ true) (subst (λ (x : Found). is_covered of.passed x ≡ true) (sym one) yes') no in
        true≢false (sym both)

    -- no covered block is a member
    pub covered_of_none : (ulid : ℕ) → Contains (names_of view.covered) ulid → IsOfNone groups ulid
    covered_of_none ulid among =
        let g = of_map (λ (f : Found). f.ulid) view.covered ulid among in
        all_members (λ (group : Group). (m : Meta) → Contains group.members m → m.ulid ≢ ulid) groups
        (λ group own m member same. let f = member_found group own m member in not_covered f.0 g.0 f.1.0 g.1 (f.1.1 ∙ same ∙ sym g.2))
