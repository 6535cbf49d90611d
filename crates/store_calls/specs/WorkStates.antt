-- What is left of the reads of a block in each of their states. The machine's steps alone speak of this.
use Rattle.std.specs.Prelude.{◌≡◌, ℕ, ◌+◌, ◌*◌, ◌^◌, ◌<◌, List, [], ◌∷◌, ◌++◌, length, map, zip, Option, Some, None, Result, Ok, Err}
use Rattle.std.specs.List.{flat_map}
use Rattle.std.specs.List.Sorted.{IsNonDecreasingBy, IsStrictlyIncreasing}
use Rattle.base.specs.declared.memory.NoMemory.{NoMemory}
use Rattle.block_keys.specs.declared.key.Key.TheVariants.{Index, Segment}
use Rattle.world_core.specs.Leads.{after_entry}
use Rattle.world_core.specs.Operations.{IsLawful}
use Rattle.world_core.specs.Plans.{Plan, ends, never}
use Rattle.world_core.specs.declared.op.Op.{Op}
use Rattle.world_core.specs.declared.op.Op.TheVariants.{Get, GetRange}
use Rattle.world_core.specs.declared.entry.Entry.{Entry}
use Rattle.index_parts.specs.declared.postings_row.PostingsRow.{PostingsRow}
use Rattle.index_parts.specs.declared.chunk_place.ChunkPlace.{ChunkPlace}
use Rattle.base.specs.Firsts.{each_at}
use Rattle.index_parts.specs.SeriesEntry.{reference_of}
use Rattle.index_parts.specs.RowsReading.{postings_table_at}
use Rattle.index_parts.specs.Parts.{known}
use Rattle.index_parts.specs.declared.index_series.IndexSeries.{IndexSeries}
use Rattle.store_ranges.specs.IndexRanges.{Piece, Run, contents_piece, section_piece}
use Rattle.store_ranges.specs.ChunkRanges.{offset_of}
use Rattle.store_ranges.specs.Reads.{Query, Block, Cache, damaged, Reached, kept, range_of, sized, by_cache, takes, if_read}
use Rattle.store_ranges.specs.IndexReads.{Tables, Goes, reached, part_at, falls_back, after_symbols, after_table, after_lists, after_run, reads_runs, reads_whole, reads_contents, after_contents, after_whole}
use Rattle.store_chunks.specs.ChunkReads.{Read, read, Glimpse, glimpse_at, tests_at, reads_one, reads_out, reads_group, reads_groups, reads_chunks}
use Rattle.store_chunks.specs.Taken.{taken, shown}
use Rattle.store_calls.specs.BlockReads.{BlockEnd, gives, breaks_off, block_call}
use Rattle.store_calls.specs.BlockRuns.{Onward, Leading}
use Rattle.store_ranges.specs.Asking.{query_asked, block_asked, piece_of}
use Rattle.store_ranges.specs.ToRead.{group_read, run_read}
use Rattle.store_chunks.specs.Glimpsed.{pending_chunk}
use Rattle.store_chunks.specs.ChunksRead.{reads_of, references_in}
use Rattle.store_ranges.specs.declared.asked.Asked.{Asked}
use Rattle.store_ranges.specs.declared.sections.Sections.{Sections}
use Rattle.store_calls.specs.declared.block_call.BlockOutcome.{BlockOutcome}
use Rattle.store_calls.specs.declared.work.ChunkWork.{ChunkWork}
use Rattle.store_calls.specs.declared.work.SymbolsRead.{SymbolsRead}
use Rattle.store_calls.specs.declared.work.TablesRead.{TablesRead}
use Rattle.store_calls.specs.declared.work.Work.{Work}
use Rattle.store_calls.specs.declared.work.Work.TheVariants.{Fresh, Contents, Symbols, Table, Lists, Run as AtRun, Whole, Group, Single, Over}
use Rattle.store_ranges.specs.declared.group_read.GroupRead.{GroupRead}
use Rattle.store_chunks.specs.declared.glimpse.Pending.{Pending}
use Rattle.store_chunks.specs.declared.chunk_row.ChunkRow.{ChunkRow}
use Rattle.store_calls.specs.declared.work.Step.{Step}
use Rattle.store_calls.specs.declared.work.Step.TheVariants.{Wait, Done}

-- ---- the plan that is left

-- what follows the series of the index
abbrev pub shows_all : Query → Block → Cache → List IndexSeries → List Read → Plan BlockEnd
shows_all query block cache series found = ends (gives (flat_map (shown query block found) series) cache)

abbrev pub after_index : (query : Query) (block : Block) → Goes {E = BlockEnd} breaks_off query block
after_index query block at series =
    reads_chunks breaks_off query block (flat_map (taken query) series) at.cache at.last (shows_all query block at.cache series)

abbrev pub symbols_piece : Sections → Piece
symbols_piece places = section_piece places.toc places.size places.toc.symbols

abbrev pub table_piece : Sections → Piece
table_piece places = section_piece places.toc places.size places.toc.postings_table

abbrev pub lists_piece : Sections → Piece
lists_piece places = section_piece places.toc places.size places.toc.postings

-- what a reading found, or nothing where it is refused
abbrev pub read_or_none : {A R : Type 0} → Result (List A) R → List A
read_or_none (Ok found) = found
read_or_none (Err refusal) = []

-- the rows in the bytes of the postings table
abbrev pub rows_in : Sections → List ℕ → List PostingsRow
rows_in places bytes = read_or_none (postings_table_at (known (part_at (table_piece places) bytes)) places.toc.postings_table)

abbrev pub texts_of : SymbolsRead → List (List ℕ)
texts_of read = read.symbols

abbrev pub tables_in : TablesRead → List ℕ → Tables
tables_in read lists = record {
  symbols = texts_of read.first;
  rows = rows_in read.first.places read.table;
  lists = part_at (lists_piece read.first.places) lists;
}

-- ---- the order of the chunks

abbrev pub references_left : List GroupRead → List ℕ
references_left groups = flat_map (λ group. group.references) groups

abbrev pub references_pending : List Pending → List ℕ
references_pending pending = map (λ one. one.reference) pending

-- The places ascend, and so do the chunks that were read, with those that are still to be read behind them.
pub record AreInOrder (places : List ChunkPlace) (found : List ChunkRow) (left : List ℕ) : Type 0 where
  pub ascend : IsNonDecreasingBy reference_of places
  pub rise : IsStrictlyIncreasing (references_in found ++ left)

abbrev pub IsGroupWork : ChunkWork → Type 0
IsGroupWork work = AreInOrder work.places.items work.found.items (work.group.references ++ references_left work.later.items)

abbrev pub ArePending : ChunkWork → List Pending → Type 0
ArePending work pending = AreInOrder work.places.items work.found.items (references_pending pending ++ references_left work.later.items)

abbrev pub IsSingleWork : ChunkWork → ℕ → List Pending → Type 0
IsSingleWork work reference pending = AreInOrder work.places.items work.found.items (reference ∷ (references_pending pending ++ references_left work.later.items))

-- ---- the plan that is left in each state, and what follows the bytes that are waited for

module _ (asked : Asked) where
  abbrev its_query : Query
  its_query = query_asked asked

  abbrev its_block : Block
  its_block = block_asked asked

  -- what follows the series of the index
  abbrev pub chunks_left : Goes {E = BlockEnd} breaks_off its_query its_block
  chunks_left = after_index its_query its_block

  abbrev pub contents_left : ℕ → Cache → Plan BlockEnd
  contents_left size cache = reads_contents breaks_off its_query its_block size chunks_left cache

  abbrev pub whole_left : Cache → Plan BlockEnd
  whole_left cache = reads_whole breaks_off its_query its_block chunks_left cache

  -- what follows the bytes of a range, as many as were asked for or not
  abbrev pub sized_left : Piece → Reached → (Reached → List ℕ → Plan BlockEnd) → List ℕ → Plan BlockEnd
  sized_left piece at next bytes = sized piece (falls_back breaks_off its_query its_block chunks_left) next at bytes

  -- the same, where they were read and kept
  abbrev pub kept_left : Piece → Cache → (Reached → List ℕ → Plan BlockEnd) → ℕ → List ℕ → Plan BlockEnd
  kept_left piece cache next seq bytes = sized_left piece (reached seq (kept (range_of (Index its_block.ulid) piece) bytes cache)) next bytes

  -- the read of a range by the cache, and what follows
  abbrev pub range_left : Piece → Reached → (Reached → List ℕ → Plan BlockEnd) → Plan BlockEnd
  range_left piece at next = takes breaks_off (Index its_block.ulid) piece at (falls_back breaks_off its_query its_block chunks_left) next

  -- the read of a range that the cache has not got, and what follows
  abbrev pub waits : Piece → Cache → (Reached → List ℕ → Plan BlockEnd) → Plan BlockEnd
  waits piece cache next =
      by_cache breaks_off None (Index its_block.ulid) piece (reached 0 cache) (sized piece (falls_back breaks_off its_query its_block chunks_left) next)

  abbrev pub with_symbols : Sections → Reached → List ℕ → Plan BlockEnd
  with_symbols places = after_symbols breaks_off its_query its_block places.size places.toc chunks_left

  abbrev pub with_table : SymbolsRead → Reached → List ℕ → Plan BlockEnd
  with_table read = after_table breaks_off its_query its_block read.places.size read.places.toc chunks_left (texts_of read)

  abbrev pub with_lists : TablesRead → Reached → List ℕ → Plan BlockEnd
  with_lists read =
      after_lists breaks_off its_query its_block read.first.places.size read.first.places.toc chunks_left (texts_of read.first) (rows_in read.first.places read.table)

  abbrev pub runs_left : List (List ℕ) → List Run → Reached → List IndexSeries → Plan BlockEnd
  runs_left symbols runs at series = reads_runs breaks_off its_query its_block symbols chunks_left runs at series

  -- what follows the bytes of a run
  abbrev pub with_run : List (List ℕ) → Run → List Run → List IndexSeries → Reached → List ℕ → Plan BlockEnd
  with_run symbols run runs series = after_run breaks_off its_query its_block symbols chunks_left run (reads_runs breaks_off its_query its_block symbols chunks_left runs) series

  -- the chunks of these groups, behind those that were read, and then the end
  abbrev pub shows_groups : Cache → List IndexSeries → List ChunkPlace → List GroupRead → List Read → Plan BlockEnd
  shows_groups cache series places groups =
      reads_groups breaks_off its_block.ulid (tests_at its_query its_block places) cache (shows_all its_query its_block cache series) (map group_read groups)

  -- the groups behind the one at hand
  abbrev pub later_groups : ChunkWork → Cache → List Read → Plan BlockEnd
  later_groups work cache = shows_groups cache work.series.items work.places.items work.later.items

  -- the chunks of the group at hand that are left
  abbrev pub shows_out : Cache → ChunkWork → List (ℕ × Glimpse) → List Read → Plan BlockEnd
  shows_out cache work pending =
      reads_out breaks_off its_block.ulid (tests_at its_query its_block work.places.items) cache (group_read work.group) (later_groups work cache) pending

  -- what follows the bytes of a group
  abbrev pub with_group : Cache → ChunkWork → ℕ → List ℕ → Plan BlockEnd
  with_group cache work seq bytes =
      if_read (each_at (glimpse_at (tests_at its_query its_block work.places.items) (group_read work.group) bytes) work.group.references)
      (λ glimpses. shows_out cache work (zip work.group.references glimpses) (reads_of work.found.items))
      (ends (breaks_off (damaged seq) cache))

  -- what follows the bytes of a chunk that stuck out
  abbrev pub with_single : Cache → ChunkWork → ℕ → List Pending → ℕ → List ℕ → Plan BlockEnd
  with_single cache work reference pending seq bytes =
      if_read (tests_at its_query its_block work.places.items reference bytes)
      (λ samples. shows_out cache work (map pending_chunk pending) (reads_of work.found.items ++ read reference samples ∷ []))
      (ends (breaks_off (damaged seq) cache))

  abbrev pub left_at : Work → Cache → Plan BlockEnd
  left_at Fresh cache = block_call its_query its_block cache
  left_at (Contents size) cache = contents_left size.bytes cache
  left_at (Symbols places) cache = waits (symbols_piece places) cache (with_symbols places)
  left_at (Table read) cache = waits (table_piece read.places) cache (with_table read)
  left_at (Lists read) cache = waits (lists_piece read.first.places) cache (with_lists read)
  left_at (AtRun work) cache = waits (piece_of work.run.range) cache (with_run (texts_of work.read) (run_read work.run) (map run_read work.later.items) work.series.items)
  left_at Whole cache = whole_left cache
  left_at (Group work) cache =
      reads_group breaks_off its_block.ulid (tests_at its_query its_block work.places.items) cache (group_read work.group) (later_groups work cache) (reads_of work.found.items)
  left_at (Single work reference len pending) cache =
      reads_one breaks_off its_block.ulid (tests_at its_query its_block work.places.items) cache (group_read work.group) reference len
      (shows_out cache work (map pending_chunk pending.items)) (reads_of work.found.items)
  left_at Over cache = never

  abbrev pub with_bytes : Work → Cache → ℕ → List ℕ → Plan BlockEnd
  with_bytes (Contents size) cache seq bytes = after_contents breaks_off its_query its_block size.bytes chunks_left cache seq bytes
  with_bytes (Symbols places) cache seq bytes = kept_left (symbols_piece places) cache (with_symbols places) seq bytes
  with_bytes (Table read) cache seq bytes = kept_left (table_piece read.places) cache (with_table read) seq bytes
  with_bytes (Lists read) cache seq bytes = kept_left (lists_piece read.first.places) cache (with_lists read) seq bytes
  with_bytes (AtRun work) cache seq bytes =
      kept_left (piece_of work.run.range) cache (with_run (texts_of work.read) (run_read work.run) (map run_read work.later.items) work.series.items) seq bytes
  with_bytes Whole cache seq bytes = after_whole breaks_off its_query its_block cache chunks_left seq bytes
  with_bytes (Group work) cache seq bytes = with_group cache work seq bytes
  with_bytes (Single work reference len pending) cache seq bytes = with_single cache work reference pending.items seq bytes
  with_bytes other cache seq bytes = never

-- what holds of a state
abbrev pub Holds : Work → Type 0
Holds (Group work) = IsGroupWork work
Holds (Single work reference len pending) = IsSingleWork work reference pending.items
Holds work = Unit {0}

-- what may follow, where something holds
abbrev pub Where : Type 0 → Onward → Onward
Where Is follows entries end left = Is → follows entries end left

-- a run of what is left
abbrev pub may_at : Asked → Work → Cache → Onward
may_at asked work cache = Where (Holds work) (Leading (left_at asked work cache))

-- ---- what is waited for

abbrev pub range_asked : ℕ → Piece → Option Op
range_asked ulid piece = Some (GetRange (Index ulid) piece.from piece.len)

abbrev pub asked_at : ℕ → Work → Option Op
asked_at ulid (Contents size) = range_asked ulid (contents_piece size.bytes)
asked_at ulid (Symbols places) = range_asked ulid (symbols_piece places)
asked_at ulid (Table read) = range_asked ulid (table_piece read.places)
asked_at ulid (Lists read) = range_asked ulid (lists_piece read.first.places)
asked_at ulid (AtRun work) = range_asked ulid (piece_of work.run.range)
asked_at ulid Whole = Some (Get (Index ulid))
asked_at ulid (Group work) = Some (GetRange (Segment ulid work.group.segment) work.group.range.from work.group.range.len)
asked_at ulid (Single work reference len pending) = Some (GetRange (Segment ulid work.group.segment) (offset_of reference) len)
asked_at ulid other = None

-- ---- the measure

abbrev pub most : ℕ
most = 2 ^ 64

-- fewer operations are still asked for than this
abbrev pub count_at : Work → ℕ
count_at Fresh = 9 * most * most
count_at (Contents size) = 8 * most * most
count_at (Symbols places) = 7 * most * most
count_at (Table read) = 6 * most * most
count_at (Lists read) = 5 * most * most
count_at (AtRun work) = 4 * most * most + length work.later.items
count_at Whole = 3 * most * most
count_at (Group work) = most * length work.later.items + most
count_at (Single work reference len pending) = most * length work.later.items + length pending.items + 1
count_at Over = 0

-- ---- calls

-- A call asks for an operation and waits. What it may do from there is what may follow.
pub record Waits (asked : Asked) (cache : Cache) (limit : ℕ) (follows : Onward) (op : Op) (work : Work) : Type 0 where
  pub lawful : IsLawful op
  pub asks : asked_at asked.ulid work ≡ Some op
  pub falls : count_at work < limit
  pub onward : (entries : List Entry) (end : Option BlockOutcome) (left : Cache) → may_at asked work cache entries end left → follows entries end left

-- a call goes on as may follow, with this cache
abbrev pub Leads : Asked → Cache → ℕ → Onward → Result Step NoMemory → Type 0
Leads asked cache limit follows (Ok (Wait op work)) = Waits asked cache limit follows op work
Leads asked cache limit follows (Ok (Done end)) = follows [] (Some end) cache
Leads asked cache limit follows (Err none) = Unit {0}

-- a run of what is left after the entry that was waited for
abbrev pub goes_after : Asked → Work → Cache → Entry → Onward
goes_after asked work cache e = Where (Holds work) (Leading (after_entry (left_at asked work cache) e))
