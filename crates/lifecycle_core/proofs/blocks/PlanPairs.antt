-- A plan has two blocks of different ULIDs at least, so to each of its blocks there is another one.
use Rattle.base.proofs.Bools.{lt-from_Less}
use Rattle.base.proofs.Lists.{filter_hit, filter_miss}
use Rattle.base.proofs.Membership.{contains_first, contains_later, each_member, into_map, member_cases, no_member, of_filter, of_in_order, of_map, of_placed}
use Rattle.std.proofs.Common.{◌≡◌, ◌≢◌, ◌⊎◌, inl, inr, ℕ, ℤ, ◌-◌, ◌<◌, ◌≤◌, ◌==◌, Bool, true, false, cond, List, [], ◌∷◌, ◌++◌, map, filter, drop, length, Contains, Option, Some, None, refl, sym, ◌∙◌, ap, subst, append_assoc, arith, Less, nat_cmp, take-append-drop}
use Rattle.std.specs.Prelude.{nat_le}
use Rattle.std.specs.List.{find}
use Rattle.std.specs.List.Sorted.{IsStrictlyIncreasing, IsStrictlySortedBy}
use Rattle.std.specs.Option.{option_map_or}
use Rattle.std.proofs.lemmas.Bool.{and_parts, cases_Bool}
use Rattle.std.proofs.lemmas.Bool.Decides.{nat_tests}
use Rattle.std.proofs.lemmas.List.Elements.{Contains-append_cases, Contains-append_left}
use Rattle.std.proofs.lemmas.Map.Keys.{sorted_from_strictly_increasing, sorted_head, sorted_tail}
use Rattle.base.specs.Ordered.{in_order, placed}
use Rattle.block_meta.specs.MetaFields.{fields_of}
use Rattle.block_meta.specs.MetaReading.{meta_of_text}
use Rattle.block_meta.specs.declared.meta.Meta.{Meta}
use Rattle.block_meta.specs.declared.block_files.BlockFiles.{BlockFiles}
use Rattle.moment_core.specs.declared.rules.Rules.{Rules}
use Rattle.world_core.specs.declared.entry.Entry.{Entry}
use Rattle.sync_filters.specs.declared.found.Found.{Found}
use Rattle.meta_fetcher.specs.Sightings.{IsView, Sighting}
use Rattle.meta_fetcher.specs.Syncs.{Course, IsEnd, SyncRun, Synced}
use Rattle.meta_fetcher.specs.Syncs as sync_told
use Rattle.meta_fetcher.specs.declared.rules.SyncRules.{SyncRules}
use Rattle.meta_fetcher.specs.declared.sync.SyncEnd.TheVariants as fetched
use Rattle.meta_fetcher.specs.declared.view.View.{View}
use Rattle.group_planner.specs.Groups.{AreGroups, comes_before, group_of, has_key}
use Rattle.group_planner.specs.Overlaps.{IsOverlapPlan}
use Rattle.group_planner.specs.Parts.{AreParts}
use Rattle.group_planner.specs.Plans.{IsPlan, without_last}
use Rattle.group_planner.specs.Selections.{AreCandidates, Candidate, IsSelection, is_wanted, last_begin, ranges}
use Rattle.group_planner.specs.declared.group.Group.{Group}
use Rattle.compactor.specs.Compactions.{metas_of, sync_rules}
use Rattle.lifecycle_core.specs.CompactionOps.{HasMerged, HasSynced}
use Rattle.lifecycle_core.proofs.activities.CompactionGroups.{named_is}
use Rattle.lifecycle_core.proofs.marks.Reasons.{kept_seen}

-- ---- blocks of different ULIDs

-- no two of the blocks have one ULID
abbrev AreApart : List Meta → Type 0
AreApart [] = Unit {0}
AreApart (m ∷ ms) = ((x : Meta) → Contains ms x → x.ulid ≢ m.ulid) × AreApart ms

apart_left : (xs ys : List Meta) → AreApart (xs ++ ys) → AreApart xs
apart_left [] ys apart = tt
apart_left (x ∷ xs) ys apart = ((λ y among. apart.0 y (Contains-append_left xs ys y among)), apart_left xs ys apart.1)

apart_right : (xs ys : List Meta) → AreApart (xs ++ ys) → AreApart ys
apart_right [] ys apart = apart
apart_right (x ∷ xs) ys apart = apart_right xs ys apart.1

apart_filter : (p : Meta → Bool) (xs : List Meta) → AreApart xs → AreApart (filter p xs)
apart_filter p [] apart = tt
apart_filter p (x ∷ xs) apart = elim (cases_Bool (p x)) [
  | inl hit ↦ subst AreApart (sym (filter_hit p x xs hit)) ((λ y among. apart.0 y (of_filter p xs y among)), apart_filter p xs apart.1)
  | inr miss ↦ subst AreApart (sym (filter_miss p x xs miss)) (apart_filter p xs apart.1)
]

apart_placed : (less : Meta → Meta → Bool) (x : Meta) (ys : List Meta) → ((y : Meta) → Contains ys y → y.ulid ≢ x.ulid) → AreApart ys → AreApart (placed less x ys)
unfolding placed
apart_placed less x [] other apart = ((λ y among. absurd (no_member y among)), tt)
apart_placed less x (y ∷ ys) other apart = elim (cases_Bool (less y x)) [
  | inl test ↦ rw test ((λ z among is. behind z is (of_placed less x z ys among)), apart_placed less x ys (λ z among. other z (contains_later y z ys among)) apart.1)
  | inr test ↦ rw test (other, apart)
]
  where
    behind : (z : Meta) → z.ulid ≡ y.ulid → (x ≡ z) ⊎ Contains ys z → ⊥
    behind z is (inl same) = other y (contains_first y ys) (sym is ∙ sym (ap (λ (m : Meta). m.ulid) same))
    behind z is (inr later) = apart.0 z later is

apart_in_order : (less : Meta → Meta → Bool) (xs : List Meta) → AreApart xs → AreApart (in_order less xs)
unfolding in_order
apart_in_order less [] apart = tt
apart_in_order less (x ∷ xs) apart = apart_placed less x (in_order less xs) (λ y among. apart.0 y (of_in_order less y xs among)) (apart_in_order less xs apart.1)

abbrev ulids_of : List Found → List ℕ
ulids_of fs = map (λ (f : Found). f.ulid) fs

metas_apart : (fs : List Found) → IsStrictlySortedBy nat_cmp (ulids_of fs) → ((f : Found) → Contains fs f → f.meta.ulid ≡ f.ulid) → AreApart (metas_of fs)
metas_apart [] up named = tt
metas_apart (f ∷ fs) up named = (
  (λ m among is.
      let g = of_map (λ (b : Found). b.meta) fs m among in
      let above : f.ulid < (g.0).ulid = lt-from_Less f.ulid (g.0).ulid (each_member (λ x. nat_cmp f.ulid x ≡ Less) (ulids_of fs) (g.0).ulid (sorted_head nat_cmp f.ulid (ulids_of fs) up) (into_map (λ (b : Found). b.ulid) fs g.0 g.1)) in
      let own : f.meta.ulid ≡ f.ulid = named f (contains_first f fs) in
      let its : (g.0).meta.ulid ≡ (g.0).ulid = named g.0 (contains_later f g.0 fs g.1) in
      let same : (g.0).meta.ulid ≡ f.meta.ulid = ap (λ (x : Meta). x.ulid) g.2 ∙ is in
      omega (arith, above, own, its, same)),
  metas_apart fs (sorted_tail nat_cmp f.ulid (ulids_of fs) up) (λ b among. named b (contains_later f b fs among)),
)

group_apart : (replicas : List (List ℕ)) (metas : List Meta) (groups : List Group) → AreGroups replicas metas groups → (group : Group) → Contains groups group → AreApart metas → AreApart group.members
group_apart replicas metas groups are group among apart =
    let k = of_map (group_of replicas metas) are.keys group (subst (λ gs. Contains gs group) are.are among) in
    subst (λ (g : Group). AreApart g.members) k.2 (apart_in_order comes_before (filter (has_key replicas k.0) metas) (apart_filter (has_key replicas k.0) metas apart))

-- ---- pairs of a plan

abbrev pub HasOther : List Meta → Type 0
HasOther plan = (m : Meta) → Contains plan m → (other : Meta) × Contains plan other × (other.ulid ≢ m.ulid)

pair_of : (a b : Meta) (rest : List Meta) → AreApart (a ∷ b ∷ rest) → HasOther (a ∷ b ∷ rest)
pair_of a b rest apart m among = elim (member_cases a m (b ∷ rest) among) [
  | inl same ↦ (b, contains_later a b (b ∷ rest) (contains_first b rest), (λ is. apart.0 b (contains_first b rest) (is ∙ sym (ap (λ (x : Meta). x.ulid) same))))
  | inr later ↦ (a, contains_first a (b ∷ rest), (λ is. apart.0 m later (sym is)))
]

two_of : (plan : List Meta) → 2 ≤ length plan → AreApart plan → HasOther plan
two_of [] two apart = absurd (omega (arith, two))
two_of (a ∷ []) two apart = absurd (omega (arith, two))
two_of (a ∷ b ∷ rest) two apart = pair_of a b rest apart

overlap_other : (members overlap : List Meta) → IsOverlapPlan members overlap → overlap ≢ [] → AreApart members → HasOther overlap
overlap_other members [] is some apart = absurd (some refl)
overlap_other members (first ∷ []) is some apart = absurd (is.some refl)
overlap_other members (first ∷ second ∷ run) is some apart =
    pair_of first second run
    (apart_left (first ∷ second ∷ run) is.behind
    (apart_right is.front (first ∷ second ∷ (run ++ is.behind)) (subst AreApart (is.are ∙ append_assoc is.front (first ∷ []) (second ∷ (run ++ is.behind))) apart)))

part_apart : (range : ℤ) (members : List Meta) (parts : List (List Meta)) → AreParts range members parts → (part : List Meta) → Contains parts part → AreApart members → AreApart part
part_apart range members [] are part among apart = absurd (no_member part among)
part_apart range members (first ∷ parts) (behind, next, rest) part among apart =
    let tail : AreApart (first ++ behind) = apart_right next.passed (first ++ behind) (subst AreApart next.are apart) in
    elim (member_cases first part parts among) [
      | inl same ↦ subst AreApart same (apart_left first behind tail)
      | inr later ↦ part_apart range behind parts rest part later (apart_right first behind tail)
    ]

candidate_apart : (rs : List ℤ) (members : List Meta) (candidates : List Candidate) → AreCandidates rs members candidates → (c : Candidate) → Contains candidates c → AreApart members → AreApart c.part
candidate_apart [] members candidates are c among apart = absurd (no_member c (subst (λ cs. Contains cs c) are among))
candidate_apart (range ∷ rs) members candidates (parts, others, own, rest, is) c among apart =
    elim (Contains-append_cases (map (λ (part : List Meta). record { range = range; part = part }) parts) others c (subst (λ cs. Contains cs c) is among)) [
      | inl first ↦
          let p = of_map (λ (part : List Meta). record { range = range; part = part }) parts c first in
          subst (λ (x : Candidate). AreApart x.part) p.2 (part_apart range members parts own p.0 p.1 apart)
      | inr later ↦ candidate_apart rs members others rest c later apart
    ]

found_is : (p : Candidate → Bool) (xs : List Candidate) (c : Candidate) → find p xs ≡ Some c → Contains xs c × (p c ≡ true)
found_is p [] c is = absurd (cc (is))
found_is p (x ∷ xs) c is = at (p x) refl (found_is p xs c) is
  where
    at : (b : Bool) → p x ≡ b → (find p xs ≡ Some c → Contains xs c × (p c ≡ true)) → cond b (Some x) (find p xs) ≡ Some c → Contains (x ∷ xs) c × (p c ≡ true)
    at true test rest found = let same : x ≡ c = cc (found) in (subst (Contains (x ∷ xs)) same (contains_first x xs), subst (λ y. p y ≡ true) same test)
    at false test rest found = let r = rest found in (contains_later x c xs r.0, r.1)

least_two : (n : ℕ) → nat_le 2 n ≡ true → 2 ≤ n
least_two n is = grind (arith, nat_tests, is)

selection_other : (members selected : List Meta) → IsSelection members selected → selected ≢ [] → AreApart members → HasOther selected
selection_other members selected is some apart = chosen (find (is_wanted (last_begin members)) is.candidates) refl is.first
  where
    chosen : (o : Option Candidate) → find (is_wanted (last_begin members)) is.candidates ≡ o → selected ≡ option_map_or (λ (c : Candidate). c.part) o [] → HasOther selected
    chosen None found same = absurd (some same)
    chosen (Some c) found same =
        let t = found_is (is_wanted (last_begin members)) is.candidates c found in
        let two = and_parts (nat_le 2 (length c.part)) _ t.1 in
        subst HasOther (sym same) (two_of c.part (least_two (length c.part) two.0) (candidate_apart ranges members is.candidates is.listed c t.0 apart))

plan_other : (members plan : List Meta) → IsPlan members plan → plan ≢ [] → AreApart members → HasOther plan
plan_other members plan is some apart = by (length is.overlap == 0) is.first
  where
    by : (b : Bool) → plan ≡ cond b is.selected is.overlap → HasOther plan
    by true same =
        subst HasOther (sym same)
        (selection_other (without_last members) is.selected is.is_selection (λ none. some (same ∙ none))
        (apart_left (without_last members) (drop (length members - 1) members) (subst AreApart (sym (take-append-drop (length members - 1) members)) apart)))
    by false same = subst HasOther (sym same) (overlap_other members is.overlap is.is_overlap (λ none. some (same ∙ none)) apart)

-- ---- the plan of a compaction

module _ (rules : SyncRules) (view : View) where
  by_view : (course : Course) (sightings : List Sighting) → (other : View) → other ≡ view → IsView rules course.first course.begin course.end sightings other → IsStrictlyIncreasing (ulids_of view.kept)
  by_view course sightings other same v = subst (λ (w : View). IsStrictlyIncreasing (ulids_of w.kept)) same v.kept_ascend

  by_end : (last : Synced) (course : Option Course) → IsEnd rules (last, course) (fetched.View view) → IsStrictlyIncreasing (ulids_of view.kept)
  by_end (sync_told.sighted sightings) (Some course) (other, is, v) = by_view course sightings other (cc (is)) v
  by_end (sync_told.sighted sightings) None is = absurd is
  by_end (sync_told.fault number) course is = absurd (cc (is))
  by_end (sync_told.damaged number) course is = absurd (cc (is))
  by_end sync_told.too_many course is = absurd (cc (is))

  kept_rises : (entries : List Entry) → SyncRun rules entries (Some (fetched.View view)) → IsStrictlyIncreasing (ulids_of view.kept)
  kept_rises entries ((last, course), run, is) = by_end last course is

view_apart : (rules : Rules) (own : List Entry) (view : View) → HasSynced rules own view → AreApart (metas_of view.kept)
view_apart rules own view synced =
    metas_apart view.kept (sorted_from_strictly_increasing (ulids_of view.kept) (kept_rises (sync_rules rules) view synced.sync synced.run))
    (λ f among. let seen = kept_seen rules own view synced f among in named_is f.ulid (meta_of_text seen.bytes) (fields_of f.meta) seen.meta_is)

-- to each block that was merged there is another one
pub merged_other : (rules : Rules) (view : View) (own : List Entry) (ulid : ℕ) (block : BlockFiles) (merged : HasMerged rules view own ulid block) → HasOther merged.metas
merged_other rules view own ulid block merged =
    plan_other (merged.group).members merged.metas merged.planned merged.some
    (group_apart rules.replicas (metas_of view.kept) merged.groups merged.grouped merged.group merged.among (view_apart rules own view merged.synced))
