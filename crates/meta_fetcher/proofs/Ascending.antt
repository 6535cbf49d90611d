-- A view's blocks ascend: the names of a walk do, and ULIDs are in the order of their texts.
use Rattle.std.proofs.Common.{◌≡◌, ◌<◌, ◌^◌, ℕ, Bool, true, false, not, List, [], ◌∷◌, ◌++◌, refl, sym, ◌∙◌, ap, subst, Option, Some, None, Result, Ok, Err, cond, append_assoc, append-nil}
use Rattle.std.specs.Prelude.{map}
use Rattle.std.specs.List.{AllByRecursion, filter, cons_option, last_or}
use Rattle.std.specs.List.Sorted.{IsStrictlyIncreasing, IsStrictlySortedBy}
use Rattle.std.specs.Result.{result_ok}
use Rattle.std.proofs.Common.{Less}
use Rattle.std.specs.Ordering.{is_lt, nat_cmp}
use Rattle.std.specs.Cmp.Lexicographic.{slice_cmp}
use Rattle.std.proofs.lemmas.Bool.{and_from, and_parts}
use Rattle.std.proofs.lemmas.Cmp.{nat_list_cmp_total}
use Rattle.std.proofs.lemmas.List.{map-append}
use Rattle.std.proofs.lemmas.Map.Keys.{IsStrictlyIncreasing-from_sorted, sorted_from_strictly_increasing}
use Rattle.base.proofs.Bools.{Less-from_is_lt}
use Rattle.base.specs.Order.{are_in_order_after, comes_after}
use Rattle.ulid_core.specs.UlidText.{IsUlidText, ulid_of, text_of}
use Rattle.ulid_core.specs.declared.ulid.UlidRefusal.{UlidRefusal}
use Rattle.ulid_core.proofs.UlidLaws.{IsUlidText-unique, slice_cmp-text_of, ulid_of-found}
use Rattle.label_sets.specs.Labels.{compare_texts}
use Rattle.world_core.specs.Plans.{Runs}
use Rattle.world_core.specs.Walks.{ulids_in}
use Rattle.world_core.specs.declared.entry.Entry.{Entry}
use Rattle.world_core.proofs.PlanLaws.{nothing_given}
use Rattle.sync_filters.specs.Filters.{is_consistent, is_covered, is_in_partition, is_unmarked}
use Rattle.sync_filters.specs.declared.found.Found.{Found}
use Rattle.meta_fetcher.specs.Sightings.{Sighting, sighting_of, passed_by, kept_by, covered_by}
use Rattle.meta_fetcher.specs.Syncs.{Synced, sighted, fault, damaged, too_many, Course, sync, SightingsAscend}
use Rattle.meta_fetcher.specs.declared.rules.SyncRules.{SyncRules}
use Rattle.meta_fetcher.proofs.SyncLaws.{KeptByPages, KeptByReads, sighting_at, told}

-- ---- ULIDs among names

abbrev Ascending : List ℕ → Type 0
Ascending ulids = IsStrictlySortedBy nat_cmp ulids

-- the text of each is greater than the one before it
abbrev AreAfter : Option (List ℕ) → List ℕ → Type 0
AreAfter bound [] = Unit {0}
AreAfter bound (ulid ∷ ulids) = (comes_after compare_texts bound (text_of ulid) ≡ true) × (ulid < 2 ^ 128) × AreAfter (Some (text_of ulid)) ulids

after_less : (bound : Option (List ℕ)) (name : List ℕ) (ulids : List ℕ) → comes_after compare_texts bound name ≡ true → AreAfter (Some name) ulids → AreAfter bound ulids
after_less bound name [] before all = tt
after_less None name (ulid ∷ ulids) before all = (refl, all.1, all.2)
after_less (Some x) name (ulid ∷ ulids) before all =
    (ap is_lt (nat_list_cmp_total.trans x name (text_of ulid) (Less-from_is_lt (slice_cmp nat_cmp x name) before) (Less-from_is_lt (slice_cmp nat_cmp name (text_of ulid)) all.0)), all.1, all.2)

one_after : (bound : Option (List ℕ)) (name : List ℕ) (ulids : List ℕ) (r : Result ℕ UlidRefusal) → ((ulid : ℕ) → r ≡ Ok ulid → IsUlidText name ulid) → comes_after compare_texts bound name ≡ true
    → AreAfter (Some name) ulids → AreAfter bound (cons_option (result_ok r) ulids)
one_after bound name ulids (Ok ulid) found before all =
    let is : name ≡ text_of ulid = IsUlidText-unique name ulid (found ulid refl) in
    (subst (λ text. comes_after compare_texts bound text ≡ true) is before, (found ulid refl).fits, subst (λ text. AreAfter (Some text) ulids) is all)
one_after bound name ulids (Err e) found before all = after_less bound name ulids before all

ulids_after : (bound : Option (List ℕ)) (names : List (List ℕ)) → are_in_order_after (comes_after compare_texts) bound names ≡ true → AreAfter bound (ulids_in names)
ulids_after bound [] up = tt
ulids_after bound (name ∷ names) up =
    let each = and_parts (comes_after compare_texts bound name) (are_in_order_after (comes_after compare_texts) (Some name) names) up in
    one_after bound name (ulids_in names) (ulid_of name) (ulid_of-found name) each.0 (ulids_after (Some name) names each.1)

all_above : (ulid : ℕ) (ulids : List ℕ) → ulid < 2 ^ 128 → AreAfter (Some (text_of ulid)) ulids → AllByRecursion (λ other. nat_cmp ulid other ≡ Less) ulids
all_above ulid [] small all = tt
all_above ulid (other ∷ ulids) small all = (
  sym (slice_cmp-text_of ulid other small all.1) ∙ Less-from_is_lt (slice_cmp nat_cmp (text_of ulid) (text_of other)) all.0,
  all_above ulid ulids small (after_less (Some (text_of ulid)) (text_of other) ulids all.0 all.2),
)

after_ascending : (bound : Option (List ℕ)) (ulids : List ℕ) → AreAfter bound ulids → Ascending ulids
unfolding IsStrictlySortedBy
after_ascending bound [] all = tt
after_ascending bound (ulid ∷ ulids) all = (all_above ulid ulids all.1 all.2, after_ascending (Some (text_of ulid)) ulids all.2)

-- ---- the names of a walk

ascends_on : (before : Option (List ℕ)) (listed names : List (List ℕ)) → are_in_order_after (comes_after compare_texts) before listed ≡ true → are_in_order_after (comes_after compare_texts) (last_or before listed) names ≡ true → are_in_order_after (comes_after compare_texts) before (listed ++ names) ≡ true
ascends_on before [] names up more = more
ascends_on before (name ∷ listed) names up more =
    let each = and_parts (comes_after compare_texts before name) (are_in_order_after (comes_after compare_texts) (Some name) listed) up in
    and_from (comes_after compare_texts before name) (are_in_order_after (comes_after compare_texts) (Some name) (listed ++ names)) each.0 (ascends_on (Some name) listed names each.1 more)

-- ---- sightings

all_but : (P : ℕ → Type 0) (front : List ℕ) (ulid : ℕ) (ulids : List ℕ) → AllByRecursion P (front ++ ulid ∷ ulids) → AllByRecursion P (front ++ ulids)
all_but P [] ulid ulids all = all.1
all_but P (x ∷ front) ulid ulids all = (all.0, all_but P front ulid ulids all.1)

-- without one of them
ascending_but : (front : List ℕ) (ulid : ℕ) (ulids : List ℕ) → Ascending (front ++ ulid ∷ ulids) → Ascending (front ++ ulids)
unfolding IsStrictlySortedBy
ascending_but [] ulid ulids up = up.1
ascending_but (x ∷ front) ulid ulids up = (all_but (λ other. nat_cmp x other ≡ Less) front ulid ulids up.0, ascending_but front ulid ulids up.1)

abbrev ulids_of : List Sighting → List ℕ
ulids_of sightings = map (λ sighting. sighting.ulid) sightings

-- a sighting of the first that is left
ascending_seen : (sightings : List Sighting) (sighting : Sighting) (ulids : List ℕ) → Ascending (ulids_of sightings ++ sighting.ulid ∷ ulids) → Ascending (ulids_of (sightings ++ sighting ∷ []) ++ ulids)
ascending_seen sightings sighting ulids up =
    subst Ascending (sym (ap (λ l. l ++ ulids) (map-append (λ (s : Sighting). s.ulid) sightings (sighting ∷ [])) ∙ append_assoc (ulids_of sightings) (sighting.ulid ∷ []) ulids)) up

abbrev IsInOrder : List Entry → Synced → Type 0
IsInOrder made (sighted sightings) = Ascending (ulids_of sightings)
IsInOrder made (fault number) = Unit {0}
IsInOrder made (damaged number) = Unit {0}
IsInOrder made too_many = Unit {0}

abbrev AnyEntry : Entry → Type 0
AnyEntry e = Unit {0}

by_reads : KeptByReads AnyEntry IsInOrder (λ made sightings ulids. Ascending (ulids_of sightings ++ ulids))
by_reads = record {
  over = λ made sightings up. subst Ascending (append-nil (ulids_of sightings)) up;
  mark_failed = λ made sightings ulid ulids e landed came. tt;
  no_mark = λ made sightings ulid ulids e bytes came none. tt;
  marked = λ made sightings ulid ulids e bytes mark came some. came.before;
  unmarked = λ made sightings ulid ulids e came. came.before;
  meta_failed = λ made sightings ulid ulids e landed came. tt;
  unread = λ made sightings ulid ulids e bytes came none. tt;
  seen = λ made sightings ulid ulids e bytes mark mark_read meta looked came some. ascending_seen sightings (sighting_at ulid mark mark_read e.moment meta) ulids came.before;
  missed = λ made sightings ulid ulids e came. ascending_but (ulids_of sightings) ulid ulids came.before;
}

abbrev AreUp : List Entry → List (List ℕ) → Type 0
AreUp made names = are_in_order_after (comes_after compare_texts) None names ≡ true

by_pages : (limit : ℕ) → KeptByPages AnyEntry IsInOrder limit AreUp AreUp
by_pages limit = record {
  failed = λ made listed page landed came. tt;
  unordered = λ made listed names page came down. tt;
  short = λ made listed names page came up short. ascends_on None listed names came.before up;
  full = λ made listed names page came up full. ascends_on None listed names came.before up;
  many = λ made names up many. tt;
}

-- what a sync comes to ascends
pub sync_ascends : (rules : SyncRules) (entries : List Entry) (told : Synced × Option Course) → Runs (sync rules) entries (Some told) → SightingsAscend told
sync_ascends rules entries (last, course) run =
    in_order last course (told AnyEntry IsInOrder rules AreUp AreUp (λ made sightings ulids. Ascending (ulids_of sightings ++ ulids)) (by_pages rules.page_limit) by_reads refl
    (λ made names up. after_ascending None (ulids_in names) (ulids_after None names up)) entries last course (nothing_given entries) run).0
  where
    in_order : (last : Synced) (course : Option Course) → IsInOrder entries last → SightingsAscend (last, course)
    in_order (sighted sightings) course up = IsStrictlyIncreasing-from_sorted (ulids_of sightings) up
    in_order (fault number) course up = tt
    in_order (damaged number) course up = tt
    in_order too_many course up = tt

-- ---- what is kept of the blocks

abbrev pub blocks_of : List Found → List ℕ
blocks_of found = map (λ block. block.ulid) found

all_kept : (P : ℕ → Type 0) (test : Found → Bool) (found : List Found) → AllByRecursion P (blocks_of found) → AllByRecursion P (blocks_of (filter test found))
all_kept P test [] all = tt
all_kept P test (block ∷ found) all = one (test block) (all_kept P test found all.1)
  where
    one : (b : Bool) → AllByRecursion P (blocks_of (filter test found)) → AllByRecursion P (blocks_of (cond b (block ∷ filter test found) (filter test found)))
    one true rest = (all.0, rest)
    one false rest = rest

ascending_kept : (test : Found → Bool) (found : List Found) → Ascending (blocks_of found) → Ascending (blocks_of (filter test found))
unfolding IsStrictlySortedBy
ascending_kept test [] up = tt
ascending_kept test (block ∷ found) up = one (test block) (ascending_kept test found up.1)
  where
    one : (b : Bool) → Ascending (blocks_of (filter test found)) → Ascending (blocks_of (cond b (block ∷ filter test found) (filter test found)))
    one true rest = (all_kept (λ other. nat_cmp block.ulid other ≡ Less) test found up.0, rest)
    one false rest = rest

filter_ascends : (test : Found → Bool) (found : List Found) → IsStrictlyIncreasing (blocks_of found) → IsStrictlyIncreasing (blocks_of (filter test found))
filter_ascends test found up =
    IsStrictlyIncreasing-from_sorted (blocks_of (filter test found)) (ascending_kept test found (sorted_from_strictly_increasing (blocks_of found) up))

-- what the filters by times and by marks pass ascends
pub passed_ascend : (rules : SyncRules) (found : List Found) → IsStrictlyIncreasing (blocks_of found) → IsStrictlyIncreasing (blocks_of (passed_by rules found))
passed_ascend rules found up =
    let in_time = filter (λ block. is_in_partition block.meta rules.partition) found in
    let old = filter (λ block. is_consistent block rules.consistency) in_time in
    filter_ascends (λ block. is_unmarked block rules.mark_delay) old
    (filter_ascends (λ block. is_consistent block rules.consistency) in_time (filter_ascends (λ block. is_in_partition block.meta rules.partition) found up))

-- so does what is kept of it, and what is covered
pub kept_ascend : (rules : SyncRules) (found : List Found) → IsStrictlyIncreasing (blocks_of found) → IsStrictlyIncreasing (blocks_of (kept_by rules found))
kept_ascend rules found up = let passed = passed_by rules found in filter_ascends (λ block. not (is_covered passed block)) passed (passed_ascend rules found up)

pub covered_ascend : (rules : SyncRules) (found : List Found) → IsStrictlyIncreasing (blocks_of found) → IsStrictlyIncreasing (blocks_of (covered_by rules found))
covered_ascend rules found up = let passed = passed_by rules found in filter_ascends (is_covered passed) passed (passed_ascend rules found up)

sighted_blocks : (found : List Found) → ulids_of (map sighting_of found) ≡ blocks_of found
sighted_blocks [] = refl
sighted_blocks (block ∷ found) = ap (λ l. block.ulid ∷ l) (sighted_blocks found)

-- and of blocks whose sightings ascend
pub sighted_ascend : (found : List Found) → IsStrictlyIncreasing (ulids_of (map sighting_of found)) → IsStrictlyIncreasing (blocks_of found)
sighted_ascend found up = subst IsStrictlyIncreasing (sighted_blocks found) up
