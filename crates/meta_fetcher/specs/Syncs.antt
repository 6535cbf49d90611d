-- A sync: a walk over the names of the bucket's blocks, then of each block a read of its mark and after it one of its meta,
-- whatever the mark's read found. It comes to a view of the blocks that were found and pass the filters.
use Rattle.std.specs.Prelude.{◌≡◌, ℕ, List, [], ◌∷◌, ◌++◌, map, Option, Some, None}
use Rattle.std.specs.List.Sorted.{IsStrictlyIncreasing}
use Rattle.block_keys.specs.declared.key.Key.TheVariants as key
use Rattle.block_meta.specs.MetaFields.{MetaFields, MarkFields}
use Rattle.moment_core.specs.declared.moment.Moment.{Moment}
use Rattle.world_core.specs.Limits.{most_listed}
use Rattle.world_core.specs.Plans.{Plan, ends, gets, noting, ComesTo}
use Rattle.world_core.specs.Walks.{WalkEnds, pages, ulids_in}
use Rattle.world_core.specs.declared.op.Op.TheVariants as op
use Rattle.world_core.specs.declared.entry.Entry.{Entry}
use Rattle.meta_fetcher.specs.Sightings.{Sighting, IsView}
use Rattle.block_meta.specs.OfBlocks.{block_meta, block_mark}
use Rattle.meta_fetcher.specs.declared.rules.SyncRules.{SyncRules}
use Rattle.meta_fetcher.specs.declared.view.View.{View}
use Rattle.meta_fetcher.specs.declared.sync.SyncEnd.{SyncEnd}
use Rattle.meta_fetcher.specs.declared.sync.SyncEnd.TheVariants as ended

-- what a sync comes to
pub data Synced : Type 0 where
  -- this was read of the blocks, in the order of their ULIDs
  sighted : List Sighting → Synced
  -- the call at the entry of this number failed
  fault : ℕ → Synced
  -- what was read at the entry of this number is not as it may be
  damaged : ℕ → Synced
  -- too many names were listed
  too_many : Synced

-- ---- the reads of the blocks

-- what follows where bytes are a block's mark; where they are not, the sync ends
abbrev pub if_mark : ℕ → Option MarkFields → (MarkFields → Plan Synced) → Plan Synced
if_mark seq None next = ends (damaged seq)
if_mark seq (Some mark) next = next mark

-- The read of a block's mark. It hands on the mark, which is none where there is no mark, and the moment of the read.
abbrev pub reads_mark : ℕ → (Option MarkFields → Moment → Plan Synced) → Plan Synced
reads_mark ulid next =
    gets fault (key.Mark ulid)
    (λ e bytes. if_mark e.seq (block_mark ulid bytes) (λ mark. next (Some mark) e.moment))
    (λ e. next None e.moment)

-- what follows where bytes are a block's meta; where they are not, the sync ends
abbrev pub if_meta : ℕ → Option MetaFields → (MetaFields → Plan Synced) → Plan Synced
if_meta seq None next = ends (damaged seq)
if_meta seq (Some meta) next = next meta

-- the read of a block's meta, which hands on the meta and its moment, and what follows where there is no meta
abbrev pub reads_meta : ℕ → (MetaFields → Moment → Plan Synced) → Plan Synced → Plan Synced
reads_meta ulid next absent =
    gets fault (key.Meta ulid)
    (λ e bytes. if_meta e.seq (block_meta ulid bytes) (λ meta. next meta e.moment))
    (λ e. absent)

-- The reads of these blocks, where those before them gave these sightings. A block without a meta gives none.
abbrev pub reading : List Sighting → List ℕ → Plan Synced
reading sightings [] = ends (sighted sightings)
reading sightings (ulid ∷ ulids) =
    reads_mark ulid (λ mark mark_read.
    reads_meta ulid (λ meta meta_read.
    reading (sightings ++ record { ulid = ulid; mark = mark; mark_read = mark_read; meta = meta; meta_read = meta_read } ∷ []) ulids)
    (reading sightings ulids))

-- ---- the walk

-- how a sync ends during its walk
abbrev pub walk_ends : WalkEnds Synced
walk_ends = record { fault = fault; damaged = damaged; too_many = too_many }

-- at most so many pages after these names, and then the reads of all blocks that were listed
abbrev pub listing : SyncRules → ℕ → List (List ℕ) → Plan Synced
listing rules = pages walk_ends (λ cursor. op.RootPage cursor rules.page_limit) rules.page_limit (λ names. reading [] (ulids_in names))

-- ---- the sync

-- when entries were made: the number and the moment of the first one, and the moment of the last
pub record Course : Type 0 where
  pub first : ℕ
  pub begin : Moment
  pub end : Moment

-- with one entry more
abbrev pub with_entry : Option Course → Entry → Option Course
with_entry None e = Some (record { first = e.seq; begin = e.moment; end = e.moment })
with_entry (Some course) e = Some (record { first = course.first; begin = course.begin; end = e.moment })

-- a sync by these rules, which takes note of when its entries are made
abbrev pub sync : SyncRules → Plan (Synced × Option Course)
sync rules = noting with_entry None (listing rules most_listed [])

-- the sightings ascend by ULID, if it came to any
abbrev pub SightingsAscend : Synced × Option Course → Type 0
SightingsAscend (sighted sightings, course) = IsStrictlyIncreasing (map (λ sighting. sighting.ulid) sightings)
SightingsAscend (fault number, course) = Unit {0}
SightingsAscend (damaged number, course) = Unit {0}
SightingsAscend (too_many, course) = Unit {0}

-- what a sync comes to gives this end
abbrev pub IsEnd : SyncRules → Synced × Option Course → SyncEnd → Type 0
IsEnd rules (sighted sightings, Some course) end = (view : View) × (end ≡ ended.View view) × IsView rules course.first course.begin course.end sightings view
-- a page was asked for at least
IsEnd rules (sighted sightings, None) end = ⊥
IsEnd rules (fault number, course) end = end ≡ ended.Fault number
IsEnd rules (damaged number, course) end = end ≡ ended.Damaged number
IsEnd rules (too_many, course) end = end ≡ ended.TooMany

-- the entries and the end of a sync by these rules; without an end it was broken off
abbrev pub SyncRun : SyncRules → List Entry → Option SyncEnd → Type 0
SyncRun rules = ComesTo (sync rules) (IsEnd rules)
