-- A series call as a machine: what it waits for, and what it may still do. The machine's steps alone speak of this. What a call is
-- from its start on, SeriesCalls says.
use Rattle.std.specs.Prelude.{◌≡◌, ◌⊎◌, ℕ, ◌+◌, List, [], ◌∷◌, ◌++◌, Option, Some, None, Result, Ok, Err}
use Rattle.base.specs.declared.memory.NoMemory.{NoMemory}
use Rattle.label_sets.specs.Triples.{triples_of}
use Rattle.world_core.specs.Operations.{IsAnswer, IsLawful, entry_of}
use Rattle.world_core.specs.Plans.{ComesTo}
use Rattle.world_core.specs.declared.act.Act.{Act}
use Rattle.world_core.specs.declared.act.Act.TheVariants.{Do, Done}
use Rattle.world_core.specs.declared.op.Op.{Op}
use Rattle.world_core.specs.declared.entry.Entry.{Entry}
use Rattle.world_core.specs.declared.seen.Seen.{Seen}
use Rattle.store_ranges.specs.Caches.{held}
use Rattle.store_ranges.specs.declared.cache.IndexCache.{IndexCache}
use Rattle.store_ranges.specs.Reads.{Query, Block, Cache, missing, damaged, fault}
use Rattle.store_calls.specs.BlockReads.{BlockEnd, gives, breaks_off}
use Rattle.store_calls.specs.SeriesCalls.{CallEnd, Gives, after_block, asking, reading, sources_of, to_read}
use Rattle.store_calls.specs.BlockRuns.{cache_of, most_reads}
use Rattle.store_calls.specs.contracts.block_call.BlockCallMachine.TheImpl.{ghosts as reads}
use Rattle.store_calls.specs.Endings.{IsOver, ended_with, with_cache}
use Rattle.store_calls.specs.declared.block_call.BlockCall.{BlockCall}
use Rattle.store_calls.specs.declared.block_call.BlockOutcome.{BlockOutcome}
use Rattle.store_calls.specs.declared.block_call.BlockOutcome.TheVariants as outcome
use Rattle.store_calls.specs.declared.select.Wanted.{Wanted}
use Rattle.store_calls.specs.declared.series_call.SeriesCall.{SeriesCall}
use Rattle.store_calls.specs.declared.series_call.SeriesEnd.{SeriesEnd}
use Rattle.store_calls.specs.declared.series_call.Stage.{Stage}
use Rattle.store_calls.specs.declared.series_call.Stage.TheVariants.{Fresh, Reading, Over, Lost}

-- what a call asks for, as its code keeps it
abbrev pub query_of : Wanted → Query
query_of wanted = asking wanted.selector.now wanted.replicas.now wanted.low wanted.high

-- the blocks behind the one that a call reads
abbrev pub left_of : SeriesCall → List Block
left_of call = to_read (query_of call.wanted) call.left.now

abbrev pub IsFresh : SeriesCall → Type 0
IsFresh call = (cache : IndexCache) × (call.stage ≡ Fresh cache)

-- ---- what is left of a call

-- what may still come: entries, and the end with the cache that is left
abbrev pub Onward : Type 1
Onward = List Entry → Option CallEnd → Type 0

-- the reads of these blocks by a call, behind what it took
abbrev pub reads_of : SeriesCall → List Block → Cache → Onward
reads_of call blocks cache = ComesTo (reading (query_of call.wanted) blocks call.merger cache) (Gives (sources_of call.kept.now))

-- the reads of a block are broken off, or come to their end, from which the call goes on
abbrev pub beyond : BlockCall → (BlockOutcome → Cache → Onward) → Onward
beyond part next entries end =
    ((last : BlockCall) × reads.may part entries None last × (end ≡ None))
    ⊎ ((own : List Entry) × (others : List Entry) × (came : BlockOutcome) × (last : BlockCall)
    × (entries ≡ own ++ others) × reads.may part own (Some came) last × next came (cache_of last) others end)

-- what a block's reads came to, by the end that the code gives
abbrev pub told_by : BlockOutcome → Cache → BlockEnd
told_by (outcome.Taken series) cache = gives (triples_of series) cache
told_by (outcome.Missing number) cache = breaks_off (missing number) cache
told_by (outcome.Damaged number) cache = breaks_off (damaged number) cache
told_by (outcome.Fault number) cache = breaks_off (fault number) cache

-- what follows the end of a block's reads
abbrev pub after_reads : SeriesCall → BlockOutcome → Cache → Onward
after_reads call came cache =
    ComesTo (after_block call.merger (reading (query_of call.wanted) (left_of call)) (told_by came cache)) (Gives (sources_of call.kept.now))

-- nothing
abbrev pub nothing_left : Onward
nothing_left entries end = (entries ≡ []) × (end ≡ None)

abbrev pub left_at : Stage → SeriesCall → Onward
left_at (Fresh cache) call = reads_of call (left_of call) (held cache)
left_at (Reading part) call = beyond part (after_reads call)
left_at (Over cache) call = nothing_left
left_at Lost call = nothing_left

-- what may still come: with an end, the call is over, and has its cache
pub record may_call (call : SeriesCall) (entries : List Entry) (end : Option SeriesEnd) (last : SeriesCall) : Type 0 where
  pub left : left_at call.stage call entries (ended_with end last)
  pub over : (one : SeriesEnd) → end ≡ Some one → IsOver last

-- ---- how it goes on

-- the operation that is waited for
abbrev pub asked_at : Stage → Option Op
asked_at (Reading part) = reads.asked part
asked_at stage = None

abbrev pub asked_call : SeriesCall → Option Op
asked_call call = asked_at call.stage

-- of these blocks, fewer operations are asked for than this
abbrev pub count_left : List Block → ℕ
count_left [] = 0
count_left (block ∷ blocks) = count_left blocks + (most_reads + 1)

abbrev pub count_at : Stage → List Block → ℕ
count_at (Fresh cache) blocks = count_left blocks
count_at (Reading part) blocks = count_left blocks + reads.measure part
count_at stage blocks = 0

abbrev pub count_call : SeriesCall → ℕ
count_call call = count_at call.stage (left_of call)

-- A call has asked for an operation, and waits in the state `new`, from which what may come is what may follow.
pub record Waits (follows : Onward) (op : Op) (new : SeriesCall) : Type 0 where
  pub lawful : IsLawful op
  pub asks : asked_call new ≡ Some op
  pub onward : (entries : List Entry) (end : Option CallEnd) → left_at new.stage new entries end → follows entries end
  -- it may be stopped before the operation is done, and as soon as it is answered
  pub stopped : left_at new.stage new [] None
  pub answered : (seat : ℕ) (seen : Seen) → IsAnswer op seen → left_at new.stage new (entry_of seat op seen ∷ []) None

-- A call has come to its end, and has its cache.
pub record Ends (follows : Onward) (end : SeriesEnd) (new : SeriesCall) : Type 0 where
  pub over : IsOver new
  pub follows_so : follows [] (with_cache end new.stage)

-- a call goes on as may follow
abbrev pub Leads : Onward → Result (Act SeriesEnd) NoMemory → SeriesCall → Type 0
Leads follows (Ok (Do op)) new = Waits follows op new
Leads follows (Ok (Done end)) new = Ends follows end new
Leads follows (Err none) new = Unit {0}
