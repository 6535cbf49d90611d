-- What a sync reads of blocks are found blocks, and so each sync that comes to sightings gives a view.
use Rattle.std.proofs.Common.{◌≡◌, inl, inr, ℕ, zero, suc, ◌+◌, ◌<◌, ◌≤◌, List, [], ◌∷◌, ◌++◌, length, Option, Some, None, refl, sym, ◌∙◌, ap, subst, arith}
use Rattle.std.specs.Prelude.{map, option_map}
use Rattle.std.specs.List.{AllAdjacentBelow}
use Rattle.std.specs.List.Sorted.{IsNonDecreasingBy, IsStrictlyIncreasing}
use Rattle.std.proofs.lemmas.List.{map-append}
use Rattle.std.proofs.lemmas.List.Sorted.{IsNonDecreasingBy-from_all_adjacent}
use Rattle.block_meta.specs.MetaFields.{MarkFields, MetaFields, fields_of, mark_fields_of}
use Rattle.block_meta.specs.MetaReading.{mark_of_text, meta_of_text}
use Rattle.block_meta.specs.MetaText.{IsMarkText, IsMetaText}
use Rattle.block_meta.specs.OfBlocks.{block_mark, block_meta}
use Rattle.block_meta.specs.declared.deletion_mark.DeletionMark.{DeletionMark}
use Rattle.block_meta.specs.declared.meta.Meta.{Meta}
use Rattle.block_meta.proofs.FoundTexts.{mark_text_found, meta_text_found}
use Rattle.moment_core.specs.declared.moment.Moment.{Moment}
use Rattle.world_core.specs.Plans.{Runs}
use Rattle.world_core.specs.declared.entry.Entry.{Entry}
use Rattle.world_core.specs.declared.reply.Reply.{Reply}
use Rattle.world_core.proofs.PlanLaws.{nothing_given}
use Rattle.sync_filters.specs.declared.found.Found.{Found}
use Rattle.meta_fetcher.specs.Sightings.{IsView, Sighting, covered_by, kept_by, sighting_of}
use Rattle.meta_fetcher.specs.Syncs.{Course, Synced, damaged, fault, sighted, sync, too_many}
use Rattle.meta_fetcher.specs.declared.rules.SyncRules.{SyncRules}
use Rattle.meta_fetcher.specs.declared.view.View.{View}
use Rattle.meta_fetcher.proofs.Ascending.{blocks_of, covered_ascend, kept_ascend, sighted_ascend, sync_ascends}
use Rattle.meta_fetcher.proofs.SyncLaws.{KeptByPages, KeptByReads, TellsMark, sighting_at, told}
use Rattle.base.proofs.Rising.{rest_rises}
use Rattle.lifecycle_core.proofs.blocks.NewMetas.{meta_read}
use Rattle.lifecycle_core.proofs.marks.Looks.{mark_read}

-- ---- what is read is a meta, and a mark

sources_rise : (meta : MetaFields) (bytes : List ℕ) → IsMetaText bytes meta → IsStrictlyIncreasing meta.sources
sources_rise meta bytes is = elim (is.is.compaction.2.sources) [
  | inl none ↦ subst IsStrictlyIncreasing (sym none.1) (λ k more. omega (arith, more))
  | inr has ↦ (has.2).ascend
]

meta_there : (ulid : ℕ) (bytes : List ℕ) (meta : MetaFields) → block_meta ulid bytes ≡ Some meta → (own : Meta) × (fields_of own ≡ meta)
meta_there ulid bytes meta is =
    let text : IsMetaText bytes meta = (meta_text_found bytes).holds meta (meta_read ulid (meta_of_text bytes) meta is) in (
      record {
        ulid = meta.ulid;
        min_time = meta.min_time;
        max_time = meta.max_time;
        series = meta.series;
        samples = meta.samples;
        chunks = meta.chunks;
        level = meta.level;
        sources = meta.sources;
        parents = meta.parents;
        labels = meta.labels;
        resolution = meta.resolution;
        source = meta.source;
        files = meta.files;
        segment_files = meta.segment_files;
        times = text.is.times;
        distinct = sources_rise meta bytes text;
      },
      refl,
    )

mark_there : (ulid : ℕ) (bytes : List ℕ) (mark : MarkFields) → block_mark ulid bytes ≡ Some mark → (own : DeletionMark) × (mark_fields_of own ≡ mark)
mark_there ulid bytes mark is =
    let text : IsMarkText bytes mark = (mark_text_found bytes).holds mark (mark_read ulid (mark_of_text bytes) mark is) in
    (record { id = mark.id; deletion_time = mark.deletion_time; details = mark.details; early = text.is.early }, refl)

marked_there : (ulid : ℕ) (mark : Option MarkFields) (r : Reply) → TellsMark ulid mark r → (own : Option DeletionMark) × (option_map mark_fields_of own ≡ mark)
marked_there ulid None r tells = (None, refl)
marked_there ulid (Some mark) r (bytes, is, reads) = let own = mark_there ulid bytes mark reads in (Some own.0, ap (λ m. Some m) own.1)

-- ---- so what was sighted was found

abbrev AreFound : List Sighting → Type 0
AreFound sightings = (found : List Found) × (map sighting_of found ≡ sightings)

abbrev AnyEntry : Entry → Type 0
AnyEntry e = Unit {0}

abbrev IsFoundAll : List Entry → Synced → Type 0
IsFoundAll made (sighted sightings) = AreFound sightings
IsFoundAll made (fault number) = Unit {0}
IsFoundAll made (damaged number) = Unit {0}
IsFoundAll made too_many = Unit {0}

one_more : (sightings : List Sighting) (ulid : ℕ) (mark : Option MarkFields) (mark_read meta_read : Moment) (meta : MetaFields) → AreFound sightings → (own : Option DeletionMark) × (option_map mark_fields_of own ≡ mark) → (own : Meta) × (fields_of own ≡ meta)
    → AreFound (sightings ++ sighting_at ulid mark mark_read meta_read meta ∷ [])
one_more sightings ulid mark mark_read meta_read meta found marked read =
    let block : Found = record { ulid = ulid; mark = marked.0; mark_read = mark_read; meta = read.0; meta_read = meta_read } in
    let same : sighting_of block ≡ sighting_at ulid mark mark_read meta_read meta =
    ap (λ (m : Option MarkFields). sighting_at ulid m mark_read meta_read (fields_of read.0)) marked.1 ∙ ap (λ (m : MetaFields). sighting_at ulid mark mark_read meta_read m) read.1 in (
      found.0 ++ block ∷ [],
      map-append sighting_of found.0 (block ∷ []) ∙ ap (λ (l : List Sighting). l ++ sighting_of block ∷ []) found.1 ∙ ap (λ (s : Sighting). sightings ++ s ∷ []) same,
    )

by_reads : KeptByReads AnyEntry IsFoundAll (λ made sightings ulids. AreFound sightings)
by_reads = record {
  over = λ made sightings found. found;
  mark_failed = λ made sightings ulid ulids e landed came. tt;
  no_mark = λ made sightings ulid ulids e bytes came none. tt;
  marked = λ made sightings ulid ulids e bytes mark came some. came.before;
  unmarked = λ made sightings ulid ulids e came. came.before;
  meta_failed = λ made sightings ulid ulids e landed came. tt;
  unread = λ made sightings ulid ulids e bytes came none. tt;
  seen = λ made sightings ulid ulids e bytes mark mark_read meta looked came some.
      one_more sightings ulid mark mark_read e.moment meta came.before (marked_there ulid mark looked.entry.reply looked.tells) (meta_there ulid bytes meta some);
  missed = λ made sightings ulid ulids e came. came.before;
}

abbrev Any : List Entry → List (List ℕ) → Type 0
Any made names = Unit {0}

by_pages : (limit : ℕ) → KeptByPages AnyEntry IsFoundAll limit Any Any
by_pages limit = record {
  failed = λ made listed page landed came. tt;
  unordered = λ made listed names page came down. tt;
  short = λ made listed names page came up short. tt;
  full = λ made listed names page came up full. tt;
  many = λ made names any many. tt;
}

found_all : (rules : SyncRules) (entries : List Entry) (sightings : List Sighting) (course : Option Course) → Runs (sync rules) entries (Some (sighted sightings, course)) → AreFound sightings
found_all rules entries sightings course run =
    (told AnyEntry IsFoundAll rules Any Any (λ made own ulids. AreFound own) (by_pages rules.page_limit) by_reads tt (λ made names any. ([], refl)) entries (sighted sightings) course (nothing_given entries) run).0

-- ---- and gives a view

adjacent : (found : List Found) → IsStrictlyIncreasing (blocks_of found) → AllAdjacentBelow (λ (one other : Found). one.ulid ≤ other.ulid) found (length found)
adjacent [] up k d less = absurd (omega (arith, less))
adjacent (block ∷ []) up k d less = absurd (omega (arith, less))
adjacent (block ∷ next ∷ found) up zero d less = let first : block.ulid < next.ulid = up 0 (omega arith) in omega (arith, first)
adjacent (block ∷ next ∷ found) up (suc k) d less =
    let e : suc k + 1 ≡ suc (k + 1) = omega arith in
    rw e (adjacent (next ∷ found) (rest_rises block.ulid (blocks_of (next ∷ found)) up) k d (omega (arith, less)))

ascend_rise : (found : List Found) → IsStrictlyIncreasing (blocks_of found) → IsNonDecreasingBy (λ (b : Found). b.ulid) found
ascend_rise found up = IsNonDecreasingBy-from_all_adjacent (λ (b : Found). b.ulid) found (adjacent found up)

-- the view of such a sync
pub view_there : (rules : SyncRules) (entries : List Entry) (sightings : List Sighting) (course : Course) → Runs (sync rules) entries (Some (sighted sightings, Some course))
    → (view : View) × IsView rules course.first course.begin course.end sightings view
view_there rules entries sightings course run =
    let found = found_all rules entries sightings (Some course) run in
    let rise = sighted_ascend found.0 (subst (λ (l : List Sighting). IsStrictlyIncreasing (map (λ (s : Sighting). s.ulid) l)) (sym found.1) (sync_ascends rules entries (sighted sightings, Some course) run)) in
    let kept = kept_ascend rules found.0 rise in
    let covered = covered_ascend rules found.0 rise in (
      record {
        first = course.first;
        begin = course.begin;
        end = course.end;
        kept = kept_by rules found.0;
        covered = covered_by rules found.0;
        kept_rise = ascend_rise (kept_by rules found.0) kept;
        covered_rise = ascend_rise (covered_by rules found.0) covered;
      },
      record { first = refl; begin = refl; end = refl; found = found.0; sighted = found.1; kept = refl; covered = refl; kept_ascend = kept; covered_ascend = covered },
    )
