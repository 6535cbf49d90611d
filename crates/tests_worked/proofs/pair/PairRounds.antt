-- What the compaction of the two blocks does, and the gateway's sync behind it.
use Rattle.std.proofs.Common.{◌≡◌, ◌<◌, inl, inr, ℕ, ℤ, zero, suc, pos, true, List, [], ◌∷◌, ◌++◌, map, Contains, Some, None, refl, sym, ap, subst, arith, lit<}
use Rattle.std.specs.List.Sorted.{IsStrictlyIncreasing, IsStrictlySortedBy}
use Rattle.base.proofs.Membership.{contains_first, member_cases, only_member}
use Rattle.base.specs.Ordered.{in_order, placed}
use Rattle.base.proofs.Rising.{one_rises}
use Rattle.label_sets.specs.Finals.{is_among, without}
use Rattle.block_content.specs.ContentReading.{index_at}
use Rattle.block_keys.specs.declared.key.Key.TheVariants as key
use Rattle.block_meta.specs.MetaFields.{fields_of}
use Rattle.block_meta.specs.MetaValue.{meta_text}
use Rattle.block_meta.specs.OfBlocks.{block_meta}
use Rattle.block_meta.specs.declared.meta.Meta.{Meta}
use Rattle.moment_core.specs.Partitions.{all_times}
use Rattle.moment_core.specs.StandardRules.{hours, minutes, standard_rules}
use Rattle.world_core.specs.Plans.{Runs, finds, noting}
use Rattle.world_core.specs.declared.op.Op.TheVariants as op
use Rattle.world_core.proofs.PlanLaws.{front}
use Rattle.world_core.proofs.PlanParts.{joined}
use Rattle.meta_fetcher.specs.OneView.{one_end_of}
use Rattle.meta_fetcher.specs.Sightings.{sighting_of}
use Rattle.meta_fetcher.specs.Syncs.{Course, IsEnd, SyncRun, listing, sighted, sync, with_entry}
use Rattle.sync_filters.specs.declared.found.Found.{Found}
use Rattle.meta_fetcher.specs.declared.rules.SyncRules.{SyncRules}
use Rattle.meta_fetcher.specs.declared.sync.SyncEnd.TheVariants as fetched
use Rattle.compactor.specs.Named.{named_segments}
use Rattle.compactor.specs.declared.merging.Merging.TheVariants.{Merged}
use Rattle.group_planner.specs.Groups.{AreGroups, Key}
use Rattle.group_planner.specs.Parts.{IsNextPart, fits_at}
use Rattle.group_planner.specs.Plans.{IsPlan}
use Rattle.group_planner.specs.declared.group.Group.{Group}
use Rattle.compactor.specs.Compactions.{CompactRun, after_sync, compaction, rounds, sync_rules}
use Rattle.compactor.specs.NewBlocks.{block_objects}
use Rattle.compactor.specs.declared.compact_end.CompactEnd.TheVariants as compacting
use Rattle.tests_worked.specs.CompactedPair as row
use Rattle.tests_worked.specs.Entries.{absent}
use Rattle.tests_worked.specs.SmallBlock as small
use Rattle.tests_worked.proofs.small.BuiltBlock.{same_objects}
use Rattle.tests_worked.proofs.pair.PairMerge.{merged_files, merging}
use Rattle.tests_worked.proofs.pair.PairMetas.{a_block_mark, a_mark_is, b_block_mark, b_block_meta, b_mark_is, b_reads, n_block_meta, n_meta_is, n_reads}
use Rattle.tests_worked.proofs.small.SmallIndex.{opened_read, whole_read}
use Rattle.tests_worked.proofs.small.SmallMeta.{a_reads, meta_reads}

-- ---- the group and its plan

abbrev pub both : List Meta
both = small.said ∷ small.said_of row.b ∷ []

abbrev group_key : Key
group_key = record { resolution = pos 0; labels = [] }

abbrev pub group : Group
group = record { resolution = pos 0; labels = []; members = both }

two_cases : (key : Key) → Contains (group_key ∷ group_key ∷ []) key → Contains (group_key ∷ []) key
two_cases key among = elim (member_cases group_key key (group_key ∷ []) among) [
  | inl is ↦ subst (λ (k : Key). Contains (group_key ∷ []) k) is (contains_first group_key [])
  | inr later ↦ later
]

pub one_group : AreGroups [] both (group ∷ [])
unfolding IsStrictlySortedBy without is_among in_order placed
one_group = record {
  keys = group_key ∷ [];
  ascending = (tt, tt);
  theirs = λ other. (λ h. subst (λ (k : Key). Contains (group_key ∷ group_key ∷ []) k) (only_member group_key other h) (contains_first group_key (group_key ∷ [])), λ h. two_cases other h);
  are = refl;
}

-- in each range the first block is a part of its own
abbrev part : List Meta
part = small.said ∷ []

one_part : (range : ℤ) → fits_at range (pos 0) small.said ≡ true → IsNextPart range part part []
one_part range fits = record { passed = []; start = pos 0; are = refl; none = tt; longest = record { each = (fits, tt); ends = tt }; some = λ none. cc (none) }

pub both_planned : IsPlan both both
both_planned = record {
  overlap = both;
  is_overlap = record {
    front = [];
    behind = [];
    are = refl;
    apart = record { each = (refl, tt); ends = refl };
    longest = record { each = (refl, tt); ends = tt };
    some = λ none. cc (none);
  };
  selected = [];
  is_selection = record {
    candidates =
        record { range = pos 7_200_000; part = part } ∷ record { range = pos 28_800_000; part = part }
        ∷ record { range = pos 172_800_000; part = part } ∷ record { range = pos 1_209_600_000; part = part } ∷ [];
    listed = (
      part ∷ [],
      _,
      ([], one_part (pos 7_200_000) refl, tt),
      (part ∷ [], _, ([], one_part (pos 28_800_000) refl, tt), (part ∷ [], _, ([], one_part (pos 172_800_000) refl, tt), (part ∷ [], [], ([], one_part (pos 1_209_600_000) refl, tt), refl, refl), refl), refl),
      refl,
    );
    first = refl;
  };
  first = refl;
}

-- ---- the syncs

-- one ULID below another
pub two_ascend : (one other : ℕ) → one < other → IsStrictlyIncreasing (one ∷ other ∷ [])
two_ascend one other below zero more = omega (arith, below)
two_ascend one other below (suc k) more = absurd (omega (arith, more))

pub none_ascend : IsStrictlyIncreasing []
none_ascend k more = omega (arith, more)

pub a_block_meta : block_meta small.a small.meta ≡ Some (fields_of small.said)
a_block_meta = rw meta_reads refl

abbrev round_rules : SyncRules
round_rules = sync_rules standard_rules

abbrev round_course : Course
round_course = record { first = 11; begin = record { ms = 1_800_001 }; end = record { ms = 1_800_005 } }

round_listing : (more : ℕ) → Runs (noting with_entry None (listing round_rules (suc more) [])) row.round_sync (Some (sighted (map sighting_of row.before_both), Some round_course))
round_listing more = (refl, rw (a_reads, b_reads) (refl, (refl, rw a_block_meta (refl, (refl, rw b_block_meta (refl, inr refl))))))

round_synced : SyncRun round_rules row.round_sync (Some (fetched.View row.round_view))
round_synced = (
  (sighted (map sighting_of row.before_both), Some round_course),
  round_listing 999_999,
  (
    row.round_view,
    refl,
    record {
      first = refl;
      begin = refl;
      end = refl;
      found = row.before_both;
      sighted = refl;
      kept = refl;
      covered = refl;
      kept_ascend = two_ascend small.a row.b (lit< tt);
      covered_ascend = none_ascend;
    },
  ),
)

abbrev pub gateway_rules : SyncRules
gateway_rules = record { consistency = minutes 30; mark_delay = hours 24; page_limit = 1_000; partition = all_times }

abbrev three : List Found
three = row.behind_both ++ row.new_seen ∷ []

abbrev course : Course
course = record { first = 29; begin = record { ms = 1_860_001 }; end = record { ms = 1_860_007 } }

gateway_listing : (more : ℕ) → Runs (noting with_entry None (listing gateway_rules (suc more) [])) row.sync (Some (sighted (map sighting_of three), Some course))
gateway_listing more =
    (refl, rw (a_reads, b_reads, n_reads) (refl, rw a_block_mark (refl, rw a_block_meta (refl, rw b_block_mark (refl, rw b_block_meta (refl, (refl, rw n_block_meta (refl, inr refl))))))))

pub synced : SyncRun gateway_rules row.sync (Some (fetched.View row.view))
synced = (
  (sighted (map sighting_of three), Some course),
  gateway_listing 999_999,
  (
    row.view,
    refl,
    record {
      first = refl;
      begin = refl;
      end = refl;
      found = three;
      sighted = refl;
      kept = refl;
      covered = refl;
      kept_ascend = one_rises row.n;
      covered_ascend = two_ascend small.a row.b (lit< tt);
    },
  ),
)

-- ---- the compaction

pub index_is : named_segments small.index ≡ Some 1
unfolding index_at
index_is = rw (opened_read, whole_read) refl

objects_are : block_objects row.n merged_files ≡ small.objects_with row.n row.n_meta
objects_are = sym (same_objects row.n (meta_text (fields_of row.said)) row.n_meta n_meta_is)

merged_made : Runs (rounds [] None row.round_view) (row.reads ++ (row.data_put ++ row.meta_put ∷ row.marks)) (Some (compacting.Done 0 1 0))
merged_made = inr (
  group ∷ [],
  one_group,
  inr (
    both,
    both_planned,
    (
      refl,
      rw index_is (
        refl,
        (
          refl,
          rw index_is (
            refl,
            inr (
              Merged merged_files,
              merging,
              rw objects_are (
                refl,
                (refl, (refl, (refl, (refl, (ap (op.Put (key.Mark small.a)) (sym a_mark_is), (refl, (ap (op.Put (key.Mark row.b)) (sym b_mark_is), (refl, inr refl)))))))),
              ),
            ),
          ),
        ),
      ),
    ),
  ),
)

pub compaction_run : CompactRun standard_rules row.compaction (Some (compacting.Done 0 1 0))
compaction_run =
    joined (sync (sync_rules standard_rules)) (λ told. finds (IsEnd (sync_rules standard_rules) told) (one_end_of (sync_rules standard_rules) told) (after_sync [] None)) row.round_sync (row.reads ++ (row.data_put ++ row.meta_put ∷ row.marks)) round_synced.0
    (Some (compacting.Done 0 1 0)) round_synced.1 (inr (fetched.View row.round_view, round_synced.2, merged_made))

-- until the new block's data was put
pub data_run : CompactRun standard_rules (row.round_sync ++ (row.reads ++ row.data_put)) None
data_run = front (compaction standard_rules) (row.round_sync ++ (row.reads ++ row.data_put)) row.meta_put row.marks (Some (compacting.Done 0 1 0)) compaction_run

-- where the first block's index is missing
pub missed_run : CompactRun standard_rules (row.round_sync ++ absent 16 3 1_800_006 (key.Index small.a) ∷ []) (Some (compacting.Missing 16))
missed_run =
    joined (sync (sync_rules standard_rules)) (λ told. finds (IsEnd (sync_rules standard_rules) told) (one_end_of (sync_rules standard_rules) told) (after_sync [] None)) row.round_sync (absent 16 3 1_800_006 (key.Index small.a) ∷ []) round_synced.0
    (Some (compacting.Missing 16)) round_synced.1 (inr (fetched.View row.round_view, round_synced.2, inr (group ∷ [], one_group, inr (both, both_planned, (refl, (refl, inr refl))))))
