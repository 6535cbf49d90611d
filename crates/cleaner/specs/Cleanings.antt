-- A cleaning: a walk over the names of the bucket's blocks, then of each block a read of its mark. A block is deleted whose mark is
-- old enough. Where there is no mark, the block's meta is read: a block without a meta is a partial, and is deleted where its ULID is
-- old enough. A deletion is a walk over the block's names, and then the deletes of its objects, the meta first and the mark last.
use Rattle.std.specs.Prelude.{ℕ, ◌+◌, List, [], ◌∷◌, Option, Some, None}
use Rattle.block_keys.specs.declared.key.Key.{Key}
use Rattle.block_keys.specs.declared.key.Key.TheVariants as key
use Rattle.block_meta.specs.MetaFields.{MarkFields}
use Rattle.moment_core.specs.declared.rules.Rules.{Rules}
use Rattle.world_core.specs.Limits.{most_listed}
use Rattle.world_core.specs.Plans.{Plan, Runs, ends, choose, gets, deletes}
use Rattle.world_core.specs.Walks.{WalkEnds, pages, ulids_in}
use Rattle.world_core.specs.declared.op.Op.TheVariants as op
use Rattle.world_core.specs.declared.entry.Entry.{Entry}
use Rattle.cleaner.specs.Marks.{is_old_mark, is_old_block}
use Rattle.block_meta.specs.OfBlocks.{block_mark}
use Rattle.cleaner.specs.Objects.{objects_of}
use Rattle.cleaner.specs.declared.clean_rules.CleanRules.{CleanRules}
use Rattle.cleaner.specs.declared.clean.CleanEnd.{CleanEnd}
use Rattle.cleaner.specs.declared.clean.CleanEnd.TheVariants.{Done, Fault, Damaged, TooMany}

-- how many blocks and partials were deleted
pub record Counts : Type 0 where
  pub blocks : ℕ
  pub partials : ℕ

abbrev pub none_deleted : Counts
none_deleted = record { blocks = 0; partials = 0 }

abbrev pub one_block_more : Counts → Counts
one_block_more counts = record { blocks = counts.blocks + 1; partials = counts.partials }

abbrev pub one_partial_more : Counts → Counts
one_partial_more counts = record { blocks = counts.blocks; partials = counts.partials + 1 }

-- how a cleaning ends during a walk of pages
abbrev pub walk_ends : WalkEnds CleanEnd
walk_ends = record { fault = Fault; damaged = Damaged; too_many = TooMany }

-- ---- the deletion of a block

-- the deletes of these objects, one after another
abbrev pub deleting : List Key → Plan CleanEnd → Plan CleanEnd
deleting [] next = next
deleting (key ∷ keys) next = deletes Fault key (λ e. deleting keys next)

-- at most so many pages after these names of the block, and then the deletes of its objects
abbrev pub walking : CleanRules → ℕ → Plan CleanEnd → ℕ → List (List ℕ) → Plan CleanEnd
walking rules ulid next =
    pages walk_ends (λ cursor. op.BlockPage ulid cursor rules.page_limit) rules.page_limit (λ names. deleting (objects_of ulid names) next)

abbrev pub deletion : CleanRules → ℕ → Plan CleanEnd → Plan CleanEnd
deletion rules ulid next = walking rules ulid next most_listed []

-- ---- the blocks

-- what follows where bytes are a block's mark; where they are not, the cleaning ends
abbrev pub if_mark : ℕ → Option MarkFields → (MarkFields → Plan CleanEnd) → Plan CleanEnd
if_mark seq None next = ends (Damaged seq)
if_mark seq (Some mark) next = next mark

-- the read of the meta of a block without a mark: an old partial is deleted
abbrev pub reads_meta : CleanRules → ℕ → Plan CleanEnd → Plan CleanEnd → Plan CleanEnd
reads_meta rules ulid kept deleted =
    gets Fault (key.Meta ulid) (λ e bytes. kept) (λ e. choose (is_old_block ulid e.moment rules.partial) deleted kept)

-- the looks at these blocks, one after another, where so many were deleted before
abbrev pub looking : CleanRules → Counts → List ℕ → Plan CleanEnd
looking rules counts [] = ends (Done counts.blocks counts.partials)
looking rules counts (ulid ∷ ulids) =
    gets Fault (key.Mark ulid)
    (λ e bytes. if_mark e.seq (block_mark ulid bytes) (λ mark.
    choose (is_old_mark mark e.moment rules.delete) (deletion rules ulid (looking rules (one_block_more counts) ulids)) (looking rules counts ulids)))
    (λ e. reads_meta rules ulid (looking rules counts ulids) (deletion rules ulid (looking rules (one_partial_more counts) ulids)))

-- ---- the whole

-- at most so many pages after these names, and then the looks at all blocks that were listed
abbrev pub listing : CleanRules → ℕ → List (List ℕ) → Plan CleanEnd
listing rules =
    pages walk_ends (λ cursor. op.RootPage cursor rules.page_limit) rules.page_limit (λ names. looking rules none_deleted (ulids_in names))

-- what a cleaning takes of the rules of a run
abbrev pub rules_of : Rules → CleanRules
rules_of rules = record { delete = rules.delete; partial = rules.partial; page_limit = rules.page_limit }

-- a cleaning by these rules
abbrev pub cleaning : Rules → Plan CleanEnd
cleaning rules = listing (rules_of rules) most_listed []

-- the entries and the end of a cleaning by these rules; without an end it was broken off
abbrev pub CleanRun : Rules → List Entry → Option CleanEnd → Type 0
CleanRun rules = Runs (cleaning rules)
