-- What the reads of a block lead to.
use Rattle.std.proofs.Common.{◌≡◌, ℕ, Bool, List, [], ◌∷◌, ◌++◌, refl, sym, ◌∙◌, ap, subst, Option, Some, None, Result}
use Rattle.std.specs.Prelude.{map, option_map}
use Rattle.std.proofs.lemmas.List.{map-append}
use Rattle.block_meta.specs.declared.deletion_mark.DeletionMark.{DeletionMark}
use Rattle.block_meta.specs.MetaFields.{MetaFields, MarkFields, fields_of, mark_fields_of}
use Rattle.world_core.specs.Operations.{entry_of}
use Rattle.world_core.specs.Plans.{Plan, ends, after_get}
use Rattle.world_core.specs.declared.op.Op.{Op}
use Rattle.world_core.specs.declared.reply.Reply.{Reply}
use Rattle.world_core.specs.declared.reply.Reply.TheVariants as reply
use Rattle.world_core.specs.declared.seen.Seen.{Seen}
use Rattle.world_core.specs.declared.entry.Entry.{Entry}
use Rattle.world_core.specs.declared.act.Act.{Act}
use Rattle.base.specs.declared.memory.NoMemory.{NoMemory}
use Rattle.sync_filters.specs.declared.found.Found.{Found}
use Rattle.meta_fetcher.specs.Sightings.{Sighting, sighting_of}
use Rattle.block_meta.specs.OfBlocks.{block_meta, block_mark}
use Rattle.meta_fetcher.specs.Syncs.{Synced, Course, fault, damaged, if_mark, if_meta, reads_meta, reading}
use Rattle.meta_fetcher.specs.SyncStates.{Onward, Goes, Leads, sightings_of, blocks_left, goes_after}
use Rattle.meta_fetcher.specs.declared.rules.SyncRules.{SyncRules}
use Rattle.meta_fetcher.specs.declared.sync.Stage.TheVariants.{Marking, Reading}
use Rattle.meta_fetcher.specs.declared.sync.Sync.{Sync}
use Rattle.meta_fetcher.specs.declared.sync.SyncEnd.{SyncEnd}
use Rattle.meta_fetcher.specs.declared.sync.SyncEnd.TheVariants.{Damaged, Fault}
use Rattle.meta_fetcher.proofs.Steps.{ended, leads_as}

module _ (rules : SyncRules) (course : Option Course) (found : List ℕ → Plan Synced) (absent : Plan Synced) (seq : ℕ) (given : Reply) where
  -- what follows a get that failed
  pub get_failed : (landed : Bool) → given ≡ reply.Failed landed → Goes rules course (after_get given found absent (ends (fault seq))) [] (Some (Fault seq))
  get_failed landed is = subst (λ r. Goes rules course (after_get r found absent (ends (fault seq))) [] (Some (Fault seq))) (sym is) (ended rules course (fault seq) (Fault seq) refl)

  -- one that found nothing
  pub get_absent : (entries : List Entry) (end : Option SyncEnd) → given ≡ reply.Absent → Goes rules course absent entries end → Goes rules course (after_get given found absent (ends (fault seq))) entries end
  get_absent entries end is run = subst (λ r. Goes rules course (after_get r found absent (ends (fault seq))) entries end) (sym is) run

  -- one that found bytes
  pub get_found : (bytes : List ℕ) (entries : List Entry) (end : Option SyncEnd) → given ≡ reply.Found bytes → Goes rules course (found bytes) entries end → Goes rules course (after_get given found absent (ends (fault seq))) entries end
  get_found bytes entries end is run = subst (λ r. Goes rules course (after_get r found absent (ends (fault seq))) entries end) (sym is) run

-- what was found is no meta of the block
pub no_meta : (rules : SyncRules) (course : Option Course) (seq : ℕ) (o : Option MetaFields) (next : MetaFields → Plan Synced) → o ≡ None → Goes rules course (if_meta seq o next) [] (Some (Damaged seq))
no_meta rules course seq o next is = subst (λ m. Goes rules course (if_meta seq m next) [] (Some (Damaged seq))) (sym is) (ended rules course (damaged seq) (Damaged seq) refl)

-- a block was found
pub meta_found : (rules : SyncRules) (course : Option Course) (seq : ℕ) (o : Option MetaFields) (block : Found) (sighting : MetaFields → Sighting) (before after : List Found) (ulids : List ℕ) (entries : List Entry) (end : Option SyncEnd)
    → o ≡ Some (fields_of block.meta) → sighting_of block ≡ sighting (fields_of block.meta) → after ≡ before ++ block ∷ []
    → Goes rules course (reading (map sighting_of after) ulids) entries end
    → Goes rules course (if_meta seq o (λ meta. reading (map sighting_of before ++ sighting meta ∷ []) ulids)) entries end
meta_found rules course seq o block sighting before after ulids entries end is sighted pushed run =
    subst (λ m. Goes rules course (if_meta seq m (λ meta. reading (map sighting_of before ++ sighting meta ∷ []) ulids)) entries end) (sym is)
    (subst (λ l. Goes rules course (reading l ulids) entries end)
    (ap (map sighting_of) pushed ∙ map-append sighting_of before (block ∷ []) ∙ ap (λ b. map sighting_of before ++ b ∷ []) sighted) run)

-- ---- the read of a mark

-- what was found is no mark of the block
pub no_mark : (rules : SyncRules) (course : Option Course) (seq : ℕ) (o : Option MarkFields) (next : MarkFields → Plan Synced) → o ≡ None → Goes rules course (if_mark seq o next) [] (Some (Damaged seq))
no_mark rules course seq o next is = subst (λ m. Goes rules course (if_mark seq m next) [] (Some (Damaged seq))) (sym is) (ended rules course (damaged seq) (Damaged seq) refl)

module _ (s : Sync) (ulid seat : ℕ) (o : Op) (seen : Seen) where
  abbrev Now : Option Course
  Now = Some (record { first = s.first; begin = s.begin; end = seen.moment })

  -- the read of the meta, and then of the blocks that wait
  abbrev Left : Option MarkFields → Plan Synced
  Left mark = reads_meta ulid (λ meta meta_read. reading (sightings_of s ++ record { ulid = ulid; mark = mark; mark_read = seen.moment; meta = meta; meta_read = meta_read } ∷ []) s.waiting.items) (blocks_left s)

  abbrev Marked : List ℕ → Plan Synced
  Marked bytes = if_mark seen.seq (block_mark ulid bytes) (λ mark. Left (Some mark))

  pub mark_refused : (bytes : List ℕ) → seen.reply ≡ reply.Found bytes → block_mark ulid bytes ≡ None → goes_after (Marking ulid) s (entry_of seat o seen) [] (Some (Damaged seen.seq))
  mark_refused bytes is none = λ names more listed.
      get_found s.rules Now Marked (Left None) seen.seq seen.reply bytes [] (Some (Damaged seen.seq)) is (no_mark s.rules Now seen.seq (block_mark ulid bytes) (λ mark. Left (Some mark)) none)

  pub mark_seen : (bytes : List ℕ) (mark : MarkFields) (r : Result (Act SyncEnd) NoMemory) (new : Sync) → seen.reply ≡ reply.Found bytes → block_mark ulid bytes ≡ Some mark
      → Leads (Goes s.rules Now (Left (Some mark))) r new → Leads (goes_after (Marking ulid) s (entry_of seat o seen)) r new
  mark_seen bytes mark r new is read leads =
      leads_as (Goes s.rules Now (Left (Some mark))) (goes_after (Marking ulid) s (entry_of seat o seen)) r new
      (λ entries end run. λ names more listed. get_found s.rules Now Marked (Left None) seen.seq seen.reply bytes entries end is
      (subst (λ m. Goes s.rules Now (if_mark seen.seq m (λ mark. Left (Some mark))) entries end) (sym read) run)) leads

  pub mark_failed : (landed : Bool) → seen.reply ≡ reply.Failed landed → goes_after (Marking ulid) s (entry_of seat o seen) [] (Some (Fault seen.seq))
  mark_failed landed is = λ names more listed. get_failed s.rules Now Marked (Left None) seen.seq seen.reply landed is

  pub mark_absent : (r : Result (Act SyncEnd) NoMemory) (new : Sync) → seen.reply ≡ reply.Absent → Leads (Goes s.rules Now (Left None)) r new → Leads (goes_after (Marking ulid) s (entry_of seat o seen)) r new
  mark_absent r new is leads =
      leads_as (Goes s.rules Now (Left None)) (goes_after (Marking ulid) s (entry_of seat o seen)) r new
      (λ entries end run. λ names more listed. get_absent s.rules Now Marked (Left None) seen.seq seen.reply entries end is run) leads

-- ---- the read of a meta

-- what was seen of a block whose mark is this one
pub marked_sighting : (block : Found) (mark : Option DeletionMark) → block.mark ≡ mark
    → sighting_of block ≡ record { ulid = block.ulid; mark = option_map mark_fields_of mark; mark_read = block.mark_read; meta = fields_of block.meta; meta_read = block.meta_read }
marked_sighting block mark is =
    let seen_as : Option DeletionMark → Sighting = λ m. record { ulid = block.ulid; mark = option_map mark_fields_of m; mark_read = block.mark_read; meta = fields_of block.meta; meta_read = block.meta_read } in
    ap seen_as is

module _ (s : Sync) (ulid seat : ℕ) (o : Op) (seen : Seen) where
  abbrev Then : Option Course
  Then = Some (record { first = s.first; begin = s.begin; end = seen.moment })

  abbrev sighting : MetaFields → Sighting
  sighting meta = record { ulid = ulid; mark = option_map mark_fields_of s.mark; mark_read = s.last; meta = meta; meta_read = seen.moment }

  abbrev Told : List ℕ → Plan Synced
  Told bytes = if_meta seen.seq (block_meta ulid bytes) (λ meta. reading (sightings_of s ++ sighting meta ∷ []) s.waiting.items)

  pub meta_failed : (landed : Bool) → seen.reply ≡ reply.Failed landed → goes_after (Reading ulid) s (entry_of seat o seen) [] (Some (Fault seen.seq))
  meta_failed landed is = λ names more listed. get_failed s.rules Then Told (blocks_left s) seen.seq seen.reply landed is

  pub meta_refused : (bytes : List ℕ) → seen.reply ≡ reply.Found bytes → block_meta ulid bytes ≡ None → goes_after (Reading ulid) s (entry_of seat o seen) [] (Some (Damaged seen.seq))
  meta_refused bytes is none = λ names more listed.
      get_found s.rules Then Told (blocks_left s) seen.seq seen.reply bytes [] (Some (Damaged seen.seq)) is
      (no_meta s.rules Then seen.seq (block_meta ulid bytes) (λ meta. reading (sightings_of s ++ sighting meta ∷ []) s.waiting.items) none)

  pub meta_seen : (bytes : List ℕ) (block : Found) (found : List Found) (r : Result (Act SyncEnd) NoMemory) (new : Sync) → seen.reply ≡ reply.Found bytes → block_meta ulid bytes ≡ Some (fields_of block.meta)
      → sighting_of block ≡ sighting (fields_of block.meta) → found ≡ s.found.items ++ block ∷ []
      → Leads (Goes s.rules Then (reading (map sighting_of found) s.waiting.items)) r new → Leads (goes_after (Reading ulid) s (entry_of seat o seen)) r new
  meta_seen bytes block found r new is read sighted pushed leads =
      leads_as (Goes s.rules Then (reading (map sighting_of found) s.waiting.items)) (goes_after (Reading ulid) s (entry_of seat o seen)) r new
      (λ entries end run. λ names more listed. get_found s.rules Then Told (blocks_left s) seen.seq seen.reply bytes entries end is
      (meta_found s.rules Then seen.seq (block_meta ulid bytes) block sighting s.found.items found s.waiting.items entries end read sighted pushed run)) leads

-- a call whose result and whose state are those
pub leads_joined : (follows : Onward) (r came : Result (Act SyncEnd) NoMemory) (new left : Sync) → r ≡ came → new ≡ left → Leads follows came left → Leads follows r new
leads_joined follows r came new left result self leads = subst (λ p. Leads follows p new) (sym result) (subst (λ s. Leads follows came s) (sym self) leads)
