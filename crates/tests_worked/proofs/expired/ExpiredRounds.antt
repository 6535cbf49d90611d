-- The compaction that marks the block that expired, and the cleanings.
use Rattle.std.proofs.Common.{◌≡◌, inr, ℕ, suc, pos, List, [], ◌∷◌, Option, Some, None, refl, sym, ap, subst}
use Rattle.std.specs.List.Sorted.{IsStrictlySortedBy}
use Rattle.base.specs.Ordered.{in_order, placed}
use Rattle.label_sets.specs.Finals.{is_among, without}
use Rattle.block_keys.specs.KeyText.{key_named, number_of, segment_of}
use Rattle.block_keys.specs.declared.key.Key.{Key}
use Rattle.block_keys.specs.declared.key.Key.TheVariants as key
use Rattle.moment_core.specs.StandardRules.{minutes, hours}
use Rattle.moment_core.specs.declared.rules.Rules.{Rules}
use Rattle.moment_core.specs.declared.span.Span.{Span}
use Rattle.world_core.specs.Plans.{Plan, Runs, choose}
use Rattle.world_core.specs.declared.op.Op.TheVariants as op
use Rattle.world_core.proofs.PlanLaws.{front}
use Rattle.world_core.proofs.PlanParts.{joined}
use Rattle.meta_fetcher.specs.Syncs.{sync}
use Rattle.meta_fetcher.specs.declared.sync.SyncEnd.TheVariants as fetched
use Rattle.group_planner.specs.Groups.{AreGroups, Key as GroupKey}
use Rattle.group_planner.specs.Plans.{IsPlan}
use Rattle.group_planner.specs.declared.group.Group.{Group}
use Rattle.compactor.specs.Compactions.{CompactRun, after_sync, rounds, sync_rules}
use Rattle.compactor.specs.declared.compact_end.CompactEnd.TheVariants as compacting
use Rattle.world_core.specs.Plans.{finds}
use Rattle.meta_fetcher.specs.Syncs.{IsEnd}
use Rattle.meta_fetcher.specs.OneView.{one_end_of}
use Rattle.cleaner.specs.Cleanings.{CleanRun, cleaning, deleting, deletion, if_mark, listing, looking, none_deleted, one_block_more, rules_of, walking}
use Rattle.cleaner.specs.Marks.{is_old_mark}
use Rattle.cleaner.specs.Objects.{objects_of}
use Rattle.cleaner.specs.declared.clean.CleanEnd.{CleanEnd}
use Rattle.cleaner.specs.declared.clean.CleanEnd.TheVariants as cleaned
use Rattle.cleaner.specs.declared.clean_rules.CleanRules.{CleanRules}
use Rattle.block_meta.specs.MetaFields.{MarkFields}
use Rattle.block_meta.specs.OfBlocks.{block_mark}
use Rattle.world_core.specs.Walks.{ulids_in}
use Rattle.world_core.specs.declared.entry.Entry.{Entry}
use Rattle.tests_worked.specs.Entries.{absent, found, listed}
use Rattle.tests_worked.specs.ExpiredBlock as row
use Rattle.tests_worked.specs.SmallBlock as small
use Rattle.tests_worked.specs.SmallRuns as runs
use Rattle.tests_worked.proofs.expired.ExpiredMark.{block_mark_reads, mark_is}
use Rattle.tests_worked.proofs.small.SmallMeta.{a_reads}
use Rattle.tests_worked.proofs.small.SmallTasks.{sync_run_by}

-- ---- the one group, which has nothing to compact

abbrev group_key : GroupKey
group_key = record { resolution = pos 0; labels = [] }

abbrev pub group_of : ℕ → Group
group_of ulid = record { resolution = pos 0; labels = []; members = small.said_of ulid ∷ [] }

pub one_group : (ulid : ℕ) → AreGroups [] (small.said_of ulid ∷ []) (group_of ulid ∷ [])
unfolding IsStrictlySortedBy without is_among in_order placed
one_group ulid = record { keys = group_key ∷ []; ascending = (tt, tt); theirs = λ other. (λ h. h, λ h. h); are = refl }

pub no_plan : (ulid : ℕ) → IsPlan (small.said_of ulid ∷ []) []
no_plan ulid = record {
  overlap = [];
  is_overlap = (refl, tt);
  selected = [];
  is_selection = record { candidates = []; listed = ([], [], tt, ([], [], tt, ([], [], tt, ([], [], tt, refl, refl), refl), refl), refl); first = refl };
  first = refl;
}

-- ---- the compaction

module _ (ignore : Span) where
  abbrev rules : Rules
  rules = row.rules_with ignore

  marks_put : Runs (rounds [] rules.retention (runs.view 11 1_860_001 (Some (runs.seen 1_860_001)))) (row.look ∷ row.put ∷ []) (Some (compacting.Done 0 0 1))
  marks_put = inr (group_of small.a ∷ [], one_group small.a, inr ([], no_plan small.a, (refl, (ap (op.Put (key.Mark small.a)) (sym mark_is), (refl, inr refl)))))

  pub compaction_run : CompactRun rules row.compaction (Some (compacting.Done 0 0 1))
  compaction_run =
      let synced = sync_run_by (minutes 30) (record { ms = 86_400_000 }) 3 11 1_860_001 12 1_860_002 13 1_860_003 (Some (runs.seen 1_860_001)) refl in
      joined (sync (sync_rules rules)) (λ told. finds (IsEnd (sync_rules rules) told) (one_end_of (sync_rules rules) told) (after_sync [] rules.retention)) (runs.sync 11 3 1_860_001) (row.look ∷ row.put ∷ []) synced.0
      (Some (compacting.Done 0 0 1)) synced.1 (inr (fetched.View (runs.view 11 1_860_001 (Some (runs.seen 1_860_001))), synced.2, marks_put))

-- ---- the cleanings

abbrev clean_rules : Span → CleanRules
clean_rules ignore = rules_of (row.rules_with ignore)

listed_are : ulids_in (small.a_text ∷ []) ≡ small.a ∷ []
listed_are = rw a_reads refl

-- a look at the block's mark that finds none, and then its meta
abbrev both_read : List Entry
both_read = absent 8 2 1_800_002 (key.Mark small.a) ∷ found 9 2 1_800_003 (key.Meta small.a) small.meta ∷ []

idle_listing : (ignore : Span) (more : ℕ) → Runs (listing (clean_rules ignore) (suc more) []) (listed 7 2 1_800_001 (small.a_text ∷ []) ∷ both_read) (Some (cleaned.Done 0 0))
idle_listing ignore more =
    (refl, subst (λ (ulids : List ℕ). Runs (looking (clean_rules ignore) none_deleted ulids) both_read (Some (cleaned.Done 0 0))) (sym listed_are) (refl, (refl, (refl, inr refl))))

-- one that finds nothing to delete makes the entries of a sync
pub idle_run : (ignore : Span) → CleanRun (row.rules_with ignore) row.sync (Some (cleaned.Done 0 0))
idle_run ignore = idle_listing ignore 999_999

objects_are : objects_of small.a row.objects ≡ key.Meta small.a ∷ key.Segment small.a 1 ∷ key.Index small.a ∷ key.Mark small.a ∷ []
unfolding key_named segment_of number_of
objects_are = refl

abbrev own_rules : CleanRules
own_rules = clean_rules (hours 24)

-- what is left when the block is deleted
abbrev then_done : Plan CleanEnd
then_done = looking own_rules (one_block_more none_deleted) []

deletes_made : (more : ℕ) → Runs (walking own_rules small.a then_done (suc more) []) row.deletion (Some (cleaned.Done 1 0))
deletes_made more =
    (refl, subst (λ (keys : List Key). Runs (deleting keys then_done) row.deletes (Some (cleaned.Done 1 0))) (sym objects_are) (refl, (refl, (refl, (refl, (refl, inr refl))))))

-- what follows the mark that was read
abbrev by_mark : MarkFields → Plan CleanEnd
by_mark mark = choose (is_old_mark mark (record { ms = 180_000_002 }) own_rules.delete) (deletion own_rules small.a then_done) (looking own_rules none_deleted [])

mark_read : Runs (if_mark 18 (block_mark small.a row.mark) by_mark) row.deletion (Some (cleaned.Done 1 0))
mark_read = subst (λ (mark : Option MarkFields). Runs (if_mark 18 mark by_mark) row.deletion (Some (cleaned.Done 1 0))) (sym block_mark_reads) (deletes_made 999_999)

own_listing : (more : ℕ) → Runs (listing own_rules (suc more) []) row.cleaning_made (Some (cleaned.Done 1 0))
own_listing more =
    (refl, subst (λ (ulids : List ℕ). Runs (looking own_rules none_deleted ulids) (row.mark_read ∷ row.deletion) (Some (cleaned.Done 1 0))) (sym listed_are) (refl, mark_read))

pub cleaning_run : CleanRun (row.rules_with (hours 24)) row.cleaning_made (Some (cleaned.Done 1 0))
cleaning_run = own_listing 999_999

-- up to the read of the mark
pub cleaning_begun : CleanRun (row.rules_with (hours 24)) (row.cleaning_page ∷ row.mark_read ∷ []) None
cleaning_begun = front (cleaning (row.rules_with (hours 24))) (row.cleaning_page ∷ row.mark_read ∷ []) row.block_page row.deletes (Some (cleaned.Done 1 0)) cleaning_run
