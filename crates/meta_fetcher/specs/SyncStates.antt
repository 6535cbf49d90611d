-- The plan at which a sync stands in each of its states. The machine's steps alone speak of this.
use Rattle.std.specs.Prelude.{◌≡◌, ℕ, suc, ◌+◌, ◌-◌, ◌*◌, ◌^◌, ◌≤◌, true, List, [], ◌∷◌, ◌++◌, length, map, Option, Some, None, option_map, Result}
use Rattle.block_keys.specs.declared.key.Key.TheVariants as key
use Rattle.block_meta.specs.MetaFields.{mark_fields_of}
use Rattle.base.specs.declared.memory.NoMemory.{NoMemory}
use Rattle.base.specs.Order.{are_in_order_after, comes_after}
use Rattle.label_sets.specs.Labels.{compare_texts}
use Rattle.world_core.specs.Leads as lead
use Rattle.world_core.specs.Leads.{after_entry}
use Rattle.world_core.specs.Limits.{most_listed}
use Rattle.world_core.specs.Plans.{Plan, noting, ComesTo}
use Rattle.world_core.specs.Walks.{after_page, last_listed, ulids_in}
use Rattle.world_core.specs.declared.op.Op.{Op}
use Rattle.world_core.specs.declared.op.Op.TheVariants as op
use Rattle.world_core.specs.declared.reply.Reply.TheVariants as reply
use Rattle.world_core.specs.declared.entry.Entry.{Entry}
use Rattle.world_core.specs.declared.act.Act.{Act}
use Rattle.sync_filters.specs.declared.found.Found.{Found}
use Rattle.meta_fetcher.specs.Sightings.{Sighting, sighting_of}
use Rattle.meta_fetcher.specs.Syncs.{Synced, Course, with_entry, reads_meta, reading, walk_ends, listing, IsEnd, SightingsAscend}
use Rattle.meta_fetcher.specs.declared.rules.SyncRules.{SyncRules}
use Rattle.meta_fetcher.specs.declared.sync.Stage.{Stage}
use Rattle.meta_fetcher.specs.declared.sync.Stage.TheVariants.{Fresh, Opening, Listing, Marking, Reading}
use Rattle.meta_fetcher.specs.declared.sync.Sync.{Sync}
use Rattle.meta_fetcher.specs.declared.sync.SyncEnd.{SyncEnd}

-- ---- what it waits for

abbrev pub asked_at : Stage → Sync → Option Op
asked_at Fresh sync = None
asked_at Opening sync = Some (op.RootPage [] sync.rules.page_limit)
asked_at Listing sync = Some (op.RootPage sync.after sync.rules.page_limit)
asked_at (Marking ulid) sync = Some (op.Get (key.Mark ulid))
asked_at (Reading ulid) sync = Some (op.Get (key.Meta ulid))

abbrev pub asked_sync : Sync → Option Op
asked_sync sync = asked_at sync.stage sync

-- ---- the plan that is left

abbrev pub sightings_of : Sync → List Sighting
sightings_of sync = map sighting_of sync.found.items

-- the reads of the blocks that wait
abbrev pub blocks_left : Sync → Plan Synced
blocks_left sync = reading (sightings_of sync) sync.waiting.items

-- the read of a block's meta, whose mark was read at the last entry, and then of the blocks that wait
abbrev pub meta_left : ℕ → Sync → Plan Synced
meta_left ulid sync =
    reads_meta ulid (λ meta meta_read.
    reading (sightings_of sync ++ record { ulid = ulid; mark = option_map mark_fields_of sync.mark; mark_read = sync.last; meta = meta; meta_read = meta_read } ∷ []) sync.waiting.items)
    (blocks_left sync)

-- what is left where these names were listed, and at most so many pages follow on the next one
abbrev pub left_at : Stage → Sync → List (List ℕ) → ℕ → Plan Synced
left_at Fresh sync names more = listing sync.rules (suc more) names
left_at Opening sync names more = listing sync.rules (suc more) names
left_at Listing sync names more = listing sync.rules (suc more) names
left_at (Marking ulid) sync names more = reading (sightings_of sync) (ulid ∷ sync.waiting.items)
left_at (Reading ulid) sync names more = meta_left ulid sync

-- when its entries were made, if any was
abbrev pub course_of : Sync → Course
course_of sync = record { first = sync.first; begin = sync.begin; end = sync.last }

abbrev pub course_at : Stage → Sync → Option Course
course_at Fresh sync = None
course_at Opening sync = None
course_at Listing sync = Some (course_of sync)
course_at (Marking ulid) sync = Some (course_of sync)
course_at (Reading ulid) sync = Some (course_of sync)

-- A sync keeps of the names that it listed how many there were, the last one, and the blocks among them, of which it read none
-- until now. It does not count pages.
pub record AreListed (count : ℕ) (waiting : List ℕ) (found : List Found) (last : Option (List ℕ)) (names : List (List ℕ)) (more : ℕ) : Type 0 where
  pub many : length names ≡ count
  pub ends : last_listed names ≡ last
  pub blocks : ulids_in names ≡ waiting
  pub unread : found ≡ []
  -- each page lists a name at least, and so does the next one
  pub enough : most_listed ≤ length names + suc more

-- the last name that was listed is this one
abbrev pub IsAfter : Option (List ℕ) → Sync → List (List ℕ) → ℕ → Type 0
IsAfter last sync names more = AreListed sync.listed sync.waiting.items sync.found.items last names more

abbrev pub HasListed : Stage → Sync → List (List ℕ) → ℕ → Type 0
HasListed Fresh sync names more = IsAfter None sync names more
HasListed Opening sync names more = IsAfter None sync names more
HasListed Listing sync names more = IsAfter (Some sync.after) sync names more
HasListed (Marking ulid) sync names more = Unit {0}
HasListed (Reading ulid) sync names more = Unit {0}

-- ---- what it may still do

-- what may follow, by entries and an end
abbrev pub Onward : Type 1
Onward = List Entry → Option SyncEnd → Type 0

-- A run of the plan, where the entries until now were made so. That its sightings ascend is known of the whole sync alone, and not
-- of what is left of it; so an end is said of those that do.
abbrev pub Goes : SyncRules → Option Course → Plan Synced → Onward
Goes rules course plan = ComesTo (noting with_entry course plan) (λ told end. SightingsAscend told → IsEnd rules told end)

-- in a stage such a run, whatever names were listed
abbrev pub GoesIn : Stage → Sync → Option Course → (List (List ℕ) → ℕ → Plan Synced) → Onward
GoesIn stage sync course plan entries end =
    (names : List (List ℕ)) (more : ℕ) → HasListed stage sync names more → Goes sync.rules course (plan names more) entries end

-- of what is left there
abbrev pub may_at : Stage → Sync → Onward
may_at stage sync = GoesIn stage sync (course_at stage sync) (left_at stage sync)

abbrev pub may_sync : Sync → List Entry → Option SyncEnd → Sync → Type 0
may_sync sync entries end last = may_at sync.stage sync entries end

-- of what follows the entry that was waited for
abbrev pub goes_after : Stage → Sync → Entry → Onward
goes_after stage sync e = GoesIn stage sync (with_entry (course_at stage sync) e) (λ names more. after_entry (left_at stage sync names more) e)

-- a run of what is left after a page of these names, which ascend
abbrev pub goes_by_names : Sync → List (List ℕ) → Onward
goes_by_names sync page entries end =
    (last : Option (List ℕ)) (names : List (List ℕ)) (more seq : ℕ) → IsAfter last sync names more → are_in_order_after (comes_after compare_texts) last page ≡ true
    → Goes sync.rules (Some (course_of sync))
    (after_page walk_ends sync.rules.page_limit names seq (reply.Names page) (λ all. reading [] (ulids_in all)) (listing sync.rules more)) entries end

-- a call goes on as may follow
abbrev pub Leads : Onward → Result (Act SyncEnd) NoMemory → Sync → Type 0
Leads follows result new = lead.Leads may_sync asked_sync follows result new

-- ---- the measure

-- how many operations the blocks of one page may ask for
abbrev pub most_asked : ℕ
most_asked = 2 ^ 34

-- at most so many operations are still asked for, and one more
abbrev pub count_at : Stage → Sync → ℕ
count_at Fresh sync = 2 * length sync.waiting.items + 3 * (most_listed - sync.listed) + most_asked + 1
count_at Opening sync = 2 * length sync.waiting.items + 3 * (most_listed - sync.listed) + most_asked
count_at Listing sync = 2 * length sync.waiting.items + 3 * (most_listed - sync.listed) + most_asked
count_at (Marking ulid) sync = 2 * length sync.waiting.items + 2
count_at (Reading ulid) sync = 2 * length sync.waiting.items + 1

abbrev pub count_of : Sync → ℕ
count_of sync = count_at sync.stage sync
