-- A compaction: a sync; of each covered block a look at its mark, and where it has none the put of one; then for each group with a
-- plan the reads of the planned blocks, the upload of the block that they become, and their marks; and last the marks of the kept
-- blocks that had expired when the compaction began.
use Rattle.std.specs.Prelude.{ℕ, ◌+◌, ◌/◌, List, [], ◌∷◌, map, Option, Some, None}
use Rattle.label_sets.specs.declared.label.Label.{Label}
use Rattle.block_meta.specs.declared.meta.Meta.{Meta}
use Rattle.moment_core.specs.declared.moment.Moment.{Moment}
use Rattle.moment_core.specs.Partitions.{all_times}
use Rattle.moment_core.specs.declared.rules.Rules.{Rules}
use Rattle.moment_core.specs.declared.span.Span.{Span}
use Rattle.sync_filters.specs.declared.found.Found.{Found}
use Rattle.world_core.specs.Plans.{Plan, Runs, ends, never, finds, and_then, noting}
use Rattle.world_core.specs.declared.entry.Entry.{Entry}
use Rattle.shipper.specs.Uploads.{upload}
use Rattle.shipper.specs.declared.upload.UploadEnd.{UploadEnd}
use Rattle.shipper.specs.declared.upload.UploadEnd.TheVariants as uploaded
use Rattle.meta_fetcher.specs.Syncs.{IsEnd, sync}
use Rattle.meta_fetcher.specs.declared.rules.SyncRules.{SyncRules}
use Rattle.meta_fetcher.specs.declared.sync.SyncEnd.{SyncEnd}
use Rattle.meta_fetcher.specs.declared.sync.SyncEnd.TheVariants as ended
use Rattle.meta_fetcher.specs.declared.view.View.{View}
use Rattle.group_planner.specs.Groups.{AreGroups}
use Rattle.group_planner.specs.Members.{ulids_of}
use Rattle.group_planner.specs.Plans.{IsPlan}
use Rattle.group_planner.specs.declared.group.Group.{Group}
use Rattle.group_planner.proofs.GroupLaws.{one_answer}
use Rattle.group_planner.proofs.PlanLaws.{one_plan}
use Rattle.compactor.specs.NewBlocks.{new_ulid, block_objects}
use Rattle.compactor.specs.FoundNames.{names_of, expired_at}
use Rattle.compactor.specs.Marking.{marking}
use Rattle.compactor.specs.Reading.{ReadEnds, reads_block, reads_blocks}
use Rattle.compactor.specs.declared.input.Input.{Input}
use Rattle.compactor.specs.declared.reason.Reason.TheVariants.{Covered, Compacted, Expired}
use Rattle.compactor.specs.Merges.{IsMerging}
use Rattle.compactor.specs.declared.merging.Merging.{Merging}
use Rattle.compactor.specs.declared.merging.Merging.TheVariants as merging_is
use Rattle.meta_fetcher.specs.OneView.{one_end_of}
use Rattle.compactor.specs.OneMerge.{one_merging}
use Rattle.compactor.specs.declared.compact_end.CompactEnd.{CompactEnd}
use Rattle.compactor.specs.declared.compact_end.CompactEnd.TheVariants.{Done, Fault, Missing, Damaged, TooMany, TooLarge}

-- how it ends at a read
abbrev pub read_ends : ReadEnds CompactEnd
read_ends = record { fault = Fault; missing = Missing; damaged = Damaged }

-- ---- the new block

-- the number of the entry that was made last
abbrev pub last_number : Option ℕ → Entry → Option ℕ
last_number before e = Some e.seq

-- What follows an upload. A new block is nowhere before it is uploaded, so one that stands already is damage.
abbrev pub after_upload : Plan CompactEnd → UploadEnd × Option ℕ → Plan CompactEnd
after_upload next (uploaded.Done objects, last) = next
after_upload next (uploaded.Already, Some look) = ends (Damaged look)
after_upload next (uploaded.Already, None) = never
after_upload next (uploaded.Fault number, last) = ends (Fault number)

-- what follows the merge: the upload of the block under its ULID, and after it the marks of those that it was compacted from
abbrev pub after_merge : ℕ → List ℕ → Plan CompactEnd → Merging → Plan CompactEnd
after_merge ulid parents next (merging_is.Merged block) =
    and_then (noting last_number None (upload ulid (block_objects ulid block)))
    (after_upload (marking Fault Compacted 0 parents (λ put. next)))
after_merge ulid parents next (merging_is.Refused number) = ends (Damaged number)
after_merge ulid parents next merging_is.TooLarge = ends TooLarge

-- The merge of the inputs, the last object of which was read at the entry of that number and moment. The new block has its ULID by it.
abbrev pub merging : List (List ℕ) → List Label → List ℕ → Plan CompactEnd → List Input → ℕ → Moment → Plan CompactEnd
merging replicas labels parents next inputs number moment =
    let ulid = new_ulid number moment in
    finds (IsMerging replicas ulid labels inputs) (one_merging replicas ulid labels inputs) (after_merge ulid parents next)

-- ---- the groups

-- what is done for a group by its plan, and nothing where that is empty
abbrev pub compacting : List (List ℕ) → List Label → Plan CompactEnd → Plan CompactEnd → List Meta → Plan CompactEnd
compacting replicas labels unplanned next [] = unplanned
compacting replicas labels unplanned next (first ∷ metas) =
    reads_block read_ends first (λ input e. reads_blocks read_ends (input ∷ []) e metas (λ inputs last.
    merging replicas labels (ulids_of (first ∷ metas)) next inputs last.seq last.moment))

-- These groups one after another, after so many that were compacted. What follows takes the number of all that were.
abbrev pub compacting_groups : List (List ℕ) → ℕ → List Group → (ℕ → Plan CompactEnd) → Plan CompactEnd
compacting_groups replicas compacted [] next = next compacted
compacting_groups replicas compacted (group ∷ groups) next =
    finds (IsPlan group.members) (one_plan group.members)
    (compacting replicas group.labels (compacting_groups replicas compacted groups next) (compacting_groups replicas (compacted + 1) groups next))

-- ---- the whole

abbrev pub metas_of : List Found → List Meta
metas_of blocks = map (λ block. block.meta) blocks

-- what is done with a view
abbrev pub rounds : List (List ℕ) → Option Span → View → Plan CompactEnd
rounds replicas retention view =
    marking Fault Covered 0 (names_of view.covered) (λ collected.
    finds (AreGroups replicas (metas_of view.kept)) (one_answer replicas (metas_of view.kept)) (λ groups.
    compacting_groups replicas 0 groups (λ compacted.
    marking Fault Expired 0 (names_of (expired_at retention view.begin view.kept)) (λ expired.
    ends (Done collected compacted expired)))))

-- what follows the sync, by its end
abbrev pub after_sync : List (List ℕ) → Option Span → SyncEnd → Plan CompactEnd
after_sync replicas retention (ended.View view) = rounds replicas retention view
after_sync replicas retention (ended.Fault number) = ends (Fault number)
after_sync replicas retention (ended.Damaged number) = ends (Damaged number)
after_sync replicas retention ended.TooMany = ends TooMany

-- A compaction's sync passes over a marked block long before the block may be deleted.
abbrev pub sync_rules : Rules → SyncRules
sync_rules rules = record { consistency = rules.consistency; mark_delay = record { ms = rules.delete.ms / 2 }; page_limit = rules.page_limit; partition = all_times }

-- a compaction by these rules
abbrev pub compaction : Rules → Plan CompactEnd
compaction rules =
    and_then (sync (sync_rules rules)) (λ told.
    finds (IsEnd (sync_rules rules) told) (one_end_of (sync_rules rules) told) (after_sync rules.replicas rules.retention))

-- the entries and the end of a compaction; without an end it was broken off
abbrev pub CompactRun : Rules → List Entry → Option CompactEnd → Type 0
CompactRun rules = Runs (compaction rules)
