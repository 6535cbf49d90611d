-- The reads of blocks: of each its index, and then its segments.
use Rattle.std.specs.Prelude.{ℕ, zero, suc, ◌+◌, ◌<◌, ◌≤◌, List, [], ◌∷◌, ◌++◌, length, Option, Some, None}
use Rattle.std.specs.List.{AllByRecursion}
use Rattle.ulid_core.specs.Limits.{ulid_time_limit}
use Rattle.block_keys.specs.declared.key.Key.{Key}
use Rattle.block_keys.specs.declared.key.Key.TheVariants as key
use Rattle.block_meta.specs.declared.meta.Meta.{Meta}
use Rattle.world_core.specs.Plans.{Plan, ends, gets}
use Rattle.world_core.specs.declared.entry.Entry.{Entry}
use Rattle.compactor.specs.Inputs.{HasNamed}
use Rattle.compactor.specs.Named.{named_segments}
use Rattle.compactor.specs.declared.input.Input.{Input}
use Rattle.compactor.specs.declared.input.Read.{Read}
use Rattle.compactor.specs.declared.reads_end.Gathered.{Gathered}
use Rattle.compactor.specs.declared.reads_end.ReadsEnd.{ReadsEnd}
use Rattle.compactor.specs.declared.reads_end.ReadsEnd.TheVariants as read

-- how an activity ends at a read
pub record ReadEnds (E : Type 0) : Type 0 where
  -- the call at the entry of this number failed
  pub fault : ℕ → E
  -- the object was not there
  pub missing : ℕ → E
  -- the index is not as it may be
  pub damaged : ℕ → E

abbrev pub read_at : Entry → List ℕ → Read
read_at e bytes = record { number = e.seq; bytes = bytes }

-- the read of an object that has to be there
abbrev pub reads : {E : Type 0} → ReadEnds E → Key → (Entry → List ℕ → Plan E) → Plan E
reads ways key next = gets ways.fault key next (λ e. ends (ways.missing e.seq))

-- the reads of so many segments after these, the last object until now having been read at that entry
abbrev pub reads_segments : {E : Type 0} → ReadEnds E → ℕ → ℕ → List Read → Entry → (List Read → Entry → Plan E) → Plan E
reads_segments ways ulid zero segments last next = next segments last
reads_segments ways ulid (suc more) segments last next =
    reads ways (key.Segment ulid (length segments + 1)) (λ e bytes. reads_segments ways ulid more (segments ++ read_at e bytes ∷ []) e next)

-- what follows an index, by how many segments it names: the reads of these
abbrev pub after_index : {E : Type 0} → ReadEnds E → Meta → Entry → List ℕ → Option ℕ → (Input → Entry → Plan E) → Plan E
after_index ways meta e bytes None next = ends (ways.damaged e.seq)
after_index ways meta e bytes (Some count) next =
    reads_segments ways meta.ulid count [] e (λ segments last. next (record { meta = meta; index = read_at e bytes; segments = segments }) last)

-- the reads of a block: its index, and then its segments
abbrev pub reads_block : {E : Type 0} → ReadEnds E → Meta → (Input → Entry → Plan E) → Plan E
reads_block ways meta next = reads ways (key.Index meta.ulid) (λ e bytes. after_index ways meta e bytes (named_segments bytes) next)

-- the reads of these blocks, after those that gave these inputs
abbrev pub reads_blocks : {E : Type 0} → ReadEnds E → List Input → Entry → List Meta → (List Input → Entry → Plan E) → Plan E
reads_blocks ways inputs last [] next = next inputs last
reads_blocks ways inputs last (meta ∷ metas) next = reads_block ways meta (λ input e. reads_blocks ways (inputs ++ input ∷ []) e metas next)

-- ---- the same by themselves

abbrev pub read_ends : ReadEnds ReadsEnd
read_ends = record { fault = read.Fault; missing = read.Missing; damaged = read.Damaged }

-- all was read, the last object at that entry
abbrev pub all_read : List Input → Entry → Plan ReadsEnd
all_read inputs last = ends (read.Done (record { inputs = inputs; number = last.seq; moment = last.moment }))

-- the reads of the blocks that wait, after those that gave these inputs
abbrev pub blocks_of : List Input → List Meta → Entry → Plan ReadsEnd
blocks_of inputs waiting last = reads_blocks read_ends inputs last waiting all_read

-- the same after one more
abbrev pub blocks_after : List Input → List Meta → Input → Entry → Plan ReadsEnd
blocks_after inputs waiting input last = blocks_of (inputs ++ input ∷ []) waiting last

-- the reads of a block, and of those that wait
abbrev pub block_of : List Input → List Meta → Meta → Plan ReadsEnd
block_of inputs waiting meta = reads_block read_ends meta (blocks_after inputs waiting)

-- ---- what the reads give

-- the blocks that were read may be merged into one, and its upload may follow the last entry, whose moment fits a ULID
pub record MayMerge (all : Gathered) : Type 0 where
  pub moment : all.moment.ms < ulid_time_limit
  pub many : 2 ≤ length all.inputs
  pub named : AllByRecursion HasNamed all.inputs

abbrev pub FitsEnd : ReadsEnd → Type 0
FitsEnd (read.Done all) = MayMerge all
FitsEnd (read.Fault number) = Unit {0}
FitsEnd (read.Missing number) = Unit {0}
FitsEnd (read.Damaged number) = Unit {0}
