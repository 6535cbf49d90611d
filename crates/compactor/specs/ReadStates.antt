-- The plan at which the reads of blocks stand in each of their states. The machine's steps alone speak of this.
use Rattle.std.specs.Prelude.{ℕ, ◌+◌, ◌*◌, List, [], ◌∷◌, ◌++◌, length, Option, Some, None, IfSome, Result, Ok, Err}
use Rattle.base.specs.declared.memory.NoMemory.{NoMemory}
use Rattle.block_keys.specs.declared.key.Key.TheVariants as key
use Rattle.block_keys.specs.Keys.{segment_limit}
use Rattle.block_meta.specs.declared.meta.Meta.{Meta}
use Rattle.world_core.specs.Plans.{Plan, Runs, never}
use Rattle.world_core.specs.declared.op.Op.{Op}
use Rattle.world_core.specs.declared.op.Op.TheVariants as op
use Rattle.world_core.specs.declared.entry.Entry.{Entry}
use Rattle.world_core.specs.declared.act.Act.{Act}
use Rattle.world_core.specs.declared.act.Act.TheVariants as act
use Rattle.compactor.specs.Reading.{read_at, reads, reads_segments, read_ends, blocks_after, block_of, FitsEnd}
use Rattle.compactor.specs.declared.input.Input.{Input}
use Rattle.compactor.specs.declared.input.Read.{Read}
use Rattle.compactor.specs.declared.reads.ReadStage.{ReadStage}
use Rattle.compactor.specs.declared.reads.ReadStage.TheVariants.{Fresh, Indexing, Segmenting, Over}
use Rattle.compactor.specs.declared.reads.Reads.{Reads}
use Rattle.compactor.specs.declared.reads_end.ReadsEnd.{ReadsEnd}

-- what follows the segments of a block
abbrev pub input_of : List Input → List Meta → Input → List Read → Entry → Plan ReadsEnd
input_of inputs waiting input segments last = blocks_after inputs waiting (record { meta = input.meta; index = input.index; segments = segments }) last

-- the reads of so many segments of a block, after those that it has
abbrev pub segments_of : List Input → List Meta → Input → ℕ → Entry → Plan ReadsEnd
segments_of inputs waiting input more last = reads_segments read_ends input.meta.ulid more input.segments last (input_of inputs waiting input)

-- the read of its next segment, and then of so many
abbrev pub segment_of : List Input → List Meta → Input → ℕ → Plan ReadsEnd
segment_of inputs waiting input more =
    reads read_ends (key.Segment input.meta.ulid (length input.segments + 1))
    (λ e bytes. reads_segments read_ends input.meta.ulid more (input.segments ++ read_at e bytes ∷ []) e (input_of inputs waiting input))

abbrev pub left_at : ReadStage → List Input → List Meta → Plan ReadsEnd
left_at (Fresh meta) inputs waiting = block_of inputs waiting meta
left_at (Indexing meta) inputs waiting = block_of inputs waiting meta
left_at (Segmenting input more) inputs waiting = segment_of inputs waiting input more
left_at Over inputs waiting = never

abbrev pub left_of : Reads → Plan ReadsEnd
left_of reads = left_at reads.stage reads.inputs reads.waiting.items

-- a run of that plan, whose end may be merged
abbrev pub may_read : Reads → List Entry → Option ReadsEnd → Reads → Type 0
may_read reads entries end last = Runs (left_of reads) entries end × IfSome end FitsEnd

-- a call that comes to an end comes to such a one
abbrev pub Fits : Result (Act ReadsEnd) NoMemory → Type 0
Fits (Ok (act.Do op)) = Unit {0}
Fits (Ok (act.Done end)) = FitsEnd end
Fits (Err none) = Unit {0}

-- the operation that is waited for
abbrev pub asked_at : ReadStage → Option Op
asked_at (Fresh meta) = None
asked_at (Indexing meta) = Some (op.Get (key.Index meta.ulid))
asked_at (Segmenting input more) = Some (op.Get (key.Segment input.meta.ulid (length input.segments + 1)))
asked_at Over = None

abbrev pub asked_read : Reads → Option Op
asked_read reads = asked_at reads.stage

-- how many objects of a block are read at most: its index and its segments
abbrev pub most_read : ℕ
most_read = segment_limit + 1

-- at most so many operations are still asked for, and one more
abbrev pub count_at : ReadStage → ℕ → ℕ
count_at (Fresh meta) waiting = most_read * waiting + (most_read + 1)
count_at (Indexing meta) waiting = most_read * waiting + most_read
count_at (Segmenting input more) waiting = most_read * waiting + more + 1
count_at Over waiting = 0

abbrev pub count_of : Reads → ℕ
count_of reads = count_at reads.stage (length reads.waiting.items)
