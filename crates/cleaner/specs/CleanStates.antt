-- The plan at which a cleaning stands in each of its states. The machine's steps alone speak of this.
use Rattle.std.specs.Prelude.{◌≡◌, ℕ, suc, ◌+◌, ◌-◌, ◌*◌, ◌^◌, ◌≤◌, ◌<◌, List, [], ◌∷◌, length, Option, Some, None, unwrap_or, Result}
use Rattle.base.specs.declared.memory.NoMemory.{NoMemory}
use Rattle.block_keys.specs.declared.key.Key.{Key}
use Rattle.block_keys.specs.declared.key.Key.TheVariants as key
use Rattle.world_core.specs.Leads as lead
use Rattle.world_core.specs.Leads.{after_entry}
use Rattle.world_core.specs.Limits.{most_listed}
use Rattle.world_core.specs.Plans.{Plan, Runs}
use Rattle.world_core.specs.Walks.{after_page, last_listed, ulids_in}
use Rattle.world_core.specs.declared.op.Op.{Op}
use Rattle.world_core.specs.declared.op.Op.TheVariants as op
use Rattle.world_core.specs.declared.reply.Reply.TheVariants as reply
use Rattle.world_core.specs.declared.entry.Entry.{Entry}
use Rattle.world_core.specs.declared.act.Act.{Act}
use Rattle.cleaner.specs.Objects.{data_keys, objects_of}
use Rattle.cleaner.specs.Cleanings.{Counts, one_partial_more, walk_ends, deleting, walking, deletion, reads_meta, looking, none_deleted, listing}
use Rattle.cleaner.specs.declared.clean.CleanEnd.{CleanEnd}
use Rattle.cleaner.specs.declared.clean.Stage.{Stage}
use Rattle.cleaner.specs.declared.clean.Stage.TheVariants.{Fresh, Listing, Marking, Reading, Walking, Deleting}
use Rattle.cleaner.specs.declared.walk.Walk.{Walk}
use Rattle.cleaner.specs.declared.clean.Clean.{Clean}

-- ---- what it waits for

-- the delete of the first object
abbrev pub first_delete : List Key → Option Op
first_delete [] = None
first_delete (object ∷ objects) = Some (op.Delete object)

abbrev pub asked_at : Stage → Clean → Option Op
asked_at Fresh clean = None
asked_at Listing clean = Some (op.RootPage (unwrap_or clean.walk.last []) clean.rules.page_limit)
asked_at (Marking ulid) clean = Some (op.Get (key.Mark ulid))
asked_at (Reading ulid) clean = Some (op.Get (key.Meta ulid))
asked_at (Walking ulid) clean = Some (op.BlockPage ulid (unwrap_or clean.walk.last []) clean.rules.page_limit)
asked_at Deleting clean = first_delete clean.doomed.items

abbrev pub asked_clean : Clean → Option Op
asked_clean clean = asked_at clean.stage clean

-- ---- the plan that is left

abbrev pub counts_of : Clean → Counts
counts_of clean = record { blocks = clean.blocks; partials = clean.partials }

-- the looks at the blocks that wait
abbrev pub blocks_left : Clean → Plan CleanEnd
blocks_left clean = looking clean.rules (counts_of clean) clean.waiting.items

-- the same where the block that is looked at is a partial
abbrev pub blocks_after_partial : Clean → Plan CleanEnd
blocks_after_partial clean = looking clean.rules (one_partial_more (counts_of clean)) clean.waiting.items

-- what is left where these names were listed in the walk, and at most so many pages follow on the next one
abbrev pub left_at : Stage → Clean → List (List ℕ) → ℕ → Plan CleanEnd
left_at Fresh clean names more = listing clean.rules (suc more) names
left_at Listing clean names more = listing clean.rules (suc more) names
left_at (Marking ulid) clean names more = looking clean.rules (counts_of clean) (ulid ∷ clean.waiting.items)
left_at (Reading ulid) clean names more = reads_meta clean.rules ulid (blocks_left clean) (deletion clean.rules ulid (blocks_after_partial clean))
left_at (Walking ulid) clean names more = walking clean.rules ulid (blocks_left clean) (suc more) names
left_at Deleting clean names more = deleting clean.doomed.items (blocks_left clean)

-- ---- what it keeps of the names

-- A cleaning keeps of the names that a walk listed how many there were, the last one, and what it reads in them: of the names of
-- blocks the ULIDs, of a block's names the keys of its segments and its index. It does not count pages.
pub record AreListed {A : Type 0} (walk : Walk) (read : List (List ℕ) → List A) (kept : List A) (names : List (List ℕ)) (more : ℕ) : Type 0 where
  pub many : length names ≡ walk.listed
  pub ends : last_listed names ≡ walk.last
  pub reads : read names ≡ kept
  pub few : length names < most_listed
  -- each page lists a name at least, and so does the next one
  pub enough : most_listed ≤ length names + suc more

-- so many blocks and partials were deleted, or may still be, that the counts hold them
abbrev pub CanCount : Clean → ℕ → Type 0
CanCount clean here = clean.blocks + clean.partials + length clean.waiting.items + here ≤ 2 ^ 63

-- the names that were listed may be these, and the pages that follow so many
abbrev pub HasListed : Stage → Clean → List (List ℕ) → ℕ → Type 0
HasListed Fresh clean names more = (counts_of clean ≡ none_deleted) × AreListed clean.walk ulids_in clean.waiting.items names more
HasListed Listing clean names more = (counts_of clean ≡ none_deleted) × AreListed clean.walk ulids_in clean.waiting.items names more
HasListed (Marking ulid) clean names more = CanCount clean 1
HasListed (Reading ulid) clean names more = CanCount clean 1
HasListed (Walking ulid) clean names more = CanCount clean 0 × AreListed clean.walk (data_keys ulid) clean.doomed.items names more
HasListed Deleting clean names more = CanCount clean 0

-- ---- what it may still do

-- what may follow, by entries and an end
abbrev pub Onward : Type 1
Onward = List Entry → Option CleanEnd → Type 0

-- in a stage a run of a plan, whatever names were listed
abbrev pub RunsIn : Stage → Clean → (List (List ℕ) → ℕ → Plan CleanEnd) → Onward
RunsIn stage clean plan entries end = (names : List (List ℕ)) (more : ℕ) → HasListed stage clean names more → Runs (plan names more) entries end

-- of what is left there
abbrev pub may_at : Stage → Clean → Onward
may_at stage clean = RunsIn stage clean (left_at stage clean)

abbrev pub may_clean : Clean → List Entry → Option CleanEnd → Clean → Type 0
may_clean clean entries end last = may_at clean.stage clean entries end

-- of what follows the entry that was waited for
abbrev pub goes_after : Stage → Clean → Entry → Onward
goes_after stage clean e = RunsIn stage clean (λ names more. after_entry (left_at stage clean names more) e)

-- of what follows a page of these names, which came at the entry of that number
abbrev pub goes_by_blocks : ℕ → Clean → List (List ℕ) → Onward
goes_by_blocks seq clean page = RunsIn Listing clean (λ names more.
    after_page walk_ends clean.rules.page_limit names seq (reply.Names page) (λ all. looking clean.rules none_deleted (ulids_in all)) (listing clean.rules more))

-- the same of a block's names
abbrev pub goes_by_objects : ℕ → ℕ → Clean → List (List ℕ) → Onward
goes_by_objects seq ulid clean page = RunsIn (Walking ulid) clean (λ names more.
    after_page walk_ends clean.rules.page_limit names seq (reply.Names page) (λ all. deleting (objects_of ulid all) (blocks_left clean)) (walking clean.rules ulid (blocks_left clean) more))

-- a run of a plan, where the counts hold what the blocks that wait may add
abbrev pub goes_to : Clean → Plan CleanEnd → Onward
goes_to clean plan entries end = CanCount clean 0 → Runs plan entries end

-- a call goes on as may follow
abbrev pub Leads : Onward → Result (Act CleanEnd) NoMemory → Clean → Type 0
Leads follows result new = lead.Leads may_clean asked_clean follows result new

-- ---- the measure

-- the deletion of a block asks for fewer operations than this
abbrev pub most_asked : ℕ
most_asked = 2 ^ 34

-- at most so many operations are still asked for, and one more
abbrev pub count_listing : Clean → ℕ
count_listing clean = most_asked * length clean.waiting.items + (most_asked + 1) * (most_listed - clean.walk.listed) + most_asked * 2 ^ 32 + 1

abbrev pub count_at : Stage → Clean → ℕ
count_at Fresh clean = count_listing clean + 1
count_at Listing clean = count_listing clean
count_at (Marking ulid) clean = most_asked * length clean.waiting.items + most_asked
count_at (Reading ulid) clean = most_asked * length clean.waiting.items + most_asked - 1
count_at (Walking ulid) clean = most_asked * length clean.waiting.items + 2 * (most_listed - clean.walk.listed) + length clean.doomed.items + 2 ^ 33
count_at Deleting clean = most_asked * length clean.waiting.items + length clean.doomed.items + 1

abbrev pub count_of : Clean → ℕ
count_of clean = count_at clean.stage clean
