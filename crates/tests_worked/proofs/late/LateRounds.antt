-- What the two compactions and the cleaning do, where the second compaction reads late.
use Rattle.std.proofs.Common.{◌≡◌, inr, ℕ, suc, List, [], ◌∷◌, ◌++◌, map, Option, Some, None, refl, sym, ap, subst, lit<}
use Rattle.std.specs.Prelude.{drop}
use Rattle.block_keys.specs.KeyText.{key_named, number_of, segment_of}
use Rattle.block_keys.specs.declared.key.Key.{Key}
use Rattle.block_keys.specs.declared.key.Key.TheVariants as key
use Rattle.block_meta.specs.MetaFields.{MarkFields}
use Rattle.block_meta.specs.OfBlocks.{block_mark}
use Rattle.world_core.specs.Plans.{Plan, Runs, choose, finds, noting}
use Rattle.world_core.specs.Walks.{ulids_in}
use Rattle.world_core.specs.declared.entry.Entry.{Entry}
use Rattle.world_core.specs.declared.op.Op.TheVariants as op
use Rattle.world_core.proofs.PlanParts.{joined}
use Rattle.sync_filters.specs.declared.found.Found.{Found}
use Rattle.meta_fetcher.specs.OneView.{one_end_of}
use Rattle.meta_fetcher.specs.Sightings.{sighting_of}
use Rattle.meta_fetcher.specs.Syncs.{Course, IsEnd, SyncRun, listing, sighted, sync, with_entry}
use Rattle.meta_fetcher.specs.declared.rules.SyncRules.{SyncRules}
use Rattle.meta_fetcher.specs.declared.sync.SyncEnd.TheVariants as fetched
use Rattle.compactor.specs.Compactions.{CompactRun, after_sync, rounds, sync_rules}
use Rattle.compactor.specs.declared.compact_end.CompactEnd.TheVariants as compacting
use Rattle.cleaner.specs.Cleanings.{CleanRun, deleting, deletion, if_mark, listing as listing_of, looking, none_deleted, one_block_more, rules_of, walking}
use Rattle.cleaner.specs.Marks.{is_old_mark}
use Rattle.cleaner.specs.Objects.{objects_of}
use Rattle.cleaner.specs.declared.clean.CleanEnd.{CleanEnd}
use Rattle.cleaner.specs.declared.clean.CleanEnd.TheVariants as cleaned
use Rattle.cleaner.specs.declared.clean_rules.CleanRules.{CleanRules}
use Rattle.tests_worked.specs.CompactedPair as pair
use Rattle.tests_worked.specs.Entries.{absent, found}
use Rattle.tests_worked.specs.LateCompaction as row
use Rattle.tests_worked.specs.SmallBlock as small
use Rattle.tests_worked.proofs.expired.ExpiredRounds.{group_of, no_plan, one_group}
use Rattle.tests_worked.proofs.late.LateMark.{block_mark_reads, mark_is}
use Rattle.tests_worked.proofs.pair.PairMetas.{b_block_meta, b_reads}
use Rattle.tests_worked.proofs.pair.PairRounds.{a_block_meta, both, both_planned, group, index_is, none_ascend, one_group as pair_group, two_ascend}
use Rattle.tests_worked.proofs.small.SmallMeta.{a_reads}
use Rattle.base.proofs.Rising.{one_rises}

-- ---- the compactions' syncs

abbrev round_rules : SyncRules
round_rules = sync_rules row.rules

abbrev first_found : List Found
first_found = pair.unmarked small.a 10_900 11_900 ∷ pair.unmarked row.b 12_900 13_900 ∷ []

abbrev first_course : Course
first_course = record { first = 11; begin = record { ms = 9_900 }; end = record { ms = 13_900 } }

first_listing : (more : ℕ) → Runs (noting with_entry None (listing round_rules (suc more) [])) row.first_sync (Some (sighted (map sighting_of first_found), Some first_course))
first_listing more = (refl, rw (a_reads, b_reads) (refl, (refl, rw a_block_meta (refl, (refl, rw b_block_meta (refl, inr refl))))))

-- it comes too soon for the first block
first_synced : SyncRun round_rules row.first_sync (Some (fetched.View row.first_view))
first_synced = (
  (sighted (map sighting_of first_found), Some first_course),
  first_listing 999_999,
  (
    row.first_view,
    refl,
    record {
      first = refl;
      begin = refl;
      end = refl;
      found = first_found;
      sighted = refl;
      kept = refl;
      covered = refl;
      kept_ascend = one_rises row.b;
      covered_ascend = none_ascend;
    },
  ),
)

abbrev second_found : List Found
second_found = pair.unmarked small.a 17_900 18_900 ∷ row.marked_seen ∷ []

abbrev second_course : Course
second_course = record { first = 19; begin = record { ms = 16_900 }; end = record { ms = 20_900 } }

second_listing : (more : ℕ) → Runs (noting with_entry None (listing round_rules (suc more) [])) row.second_sync (Some (sighted (map sighting_of second_found), Some second_course))
second_listing more = (refl, rw (a_reads, b_reads) (refl, (refl, rw a_block_meta (refl, rw block_mark_reads (refl, rw b_block_meta (refl, inr refl))))))

second_synced : SyncRun round_rules row.second_sync (Some (fetched.View row.second_view))
second_synced = (
  (sighted (map sighting_of second_found), Some second_course),
  second_listing 999_999,
  (
    row.second_view,
    refl,
    record {
      first = refl;
      begin = refl;
      end = refl;
      found = second_found;
      sighted = refl;
      kept = refl;
      covered = refl;
      kept_ascend = two_ascend small.a row.b (lit< tt);
      covered_ascend = none_ascend;
    },
  ),
)

-- ---- the compactions

abbrev first_marks : List Entry
first_marks = absent 16 3 14_900 (key.Mark row.b) ∷ row.put ∷ []

marks_put : Runs (rounds [] row.rules.retention row.first_view) first_marks (Some (compacting.Done 0 0 1))
marks_put = inr (group_of row.b ∷ [], one_group row.b, inr ([], no_plan row.b, (refl, (ap (op.Put (key.Mark row.b)) (sym mark_is), (refl, inr refl)))))

pub first_run : CompactRun row.rules row.first_compaction (Some (compacting.Done 0 0 1))
first_run =
    joined (sync round_rules) (λ told. finds (IsEnd round_rules told) (one_end_of round_rules told) (after_sync [] row.rules.retention)) row.first_sync first_marks first_synced.0
    (Some (compacting.Done 0 0 1)) first_synced.1 (inr (fetched.View row.first_view, first_synced.2, marks_put))

abbrev second_reads : List Entry
second_reads = row.a_reads ++ row.missed ∷ []

input_missed : Runs (rounds [] row.rules.retention row.second_view) second_reads (Some (compacting.Missing 35))
input_missed = inr (group ∷ [], pair_group, inr (both, both_planned, (refl, rw index_is (refl, (refl, (refl, inr refl))))))

pub second_run : CompactRun row.rules row.second_compaction (Some (compacting.Missing 35))
second_run =
    joined (sync round_rules) (λ told. finds (IsEnd round_rules told) (one_end_of round_rules told) (after_sync [] row.rules.retention)) row.second_sync second_reads second_synced.0
    (Some (compacting.Missing 35)) second_synced.1 (inr (fetched.View row.second_view, second_synced.2, input_missed))

-- ---- the cleaning

abbrev rules : CleanRules
rules = rules_of row.rules

listed_are : ulids_in row.both_names ≡ small.a ∷ row.b ∷ []
listed_are = rw (a_reads, b_reads) refl

objects_are : objects_of row.b row.objects ≡ key.Meta row.b ∷ key.Segment row.b 1 ∷ key.Index row.b ∷ key.Mark row.b ∷ []
unfolding key_named segment_of number_of
objects_are = refl

-- what is left when the block is deleted
abbrev then_done : Plan CleanEnd
then_done = looking rules (one_block_more none_deleted) []

abbrev deletes : List Entry
deletes = drop 1 row.deletion

deletes_made : (more : ℕ) → Runs (walking rules row.b then_done (suc more) []) row.deletion (Some (cleaned.Done 1 0))
deletes_made more =
    (refl, subst (λ (keys : List Key). Runs (deleting keys then_done) deletes (Some (cleaned.Done 1 0))) (sym objects_are) (refl, (refl, (refl, (refl, (refl, inr refl))))))

-- what follows the mark that was read
abbrev by_mark : MarkFields → Plan CleanEnd
by_mark mark = choose (is_old_mark mark (record { ms = 26_900 }) rules.delete) (deletion rules row.b then_done) (looking rules none_deleted [])

mark_read : Runs (if_mark 29 (block_mark row.b row.mark) by_mark) row.deletion (Some (cleaned.Done 1 0))
mark_read = subst (λ (mark : Option MarkFields). Runs (if_mark 29 mark by_mark) row.deletion (Some (cleaned.Done 1 0))) (sym block_mark_reads) (deletes_made 999_999)

abbrev looks : List Entry
looks = drop 1 row.cleaning_made

own_listing : (more : ℕ) → Runs (listing_of rules (suc more) []) row.cleaning_made (Some (cleaned.Done 1 0))
own_listing more =
    (refl, subst (λ (ulids : List ℕ). Runs (looking rules none_deleted ulids) looks (Some (cleaned.Done 1 0))) (sym listed_are) (refl, (refl, (refl, mark_read))))

pub cleaning_run : CleanRun row.rules row.cleaning_made (Some (cleaned.Done 1 0))
cleaning_run = own_listing 999_999
