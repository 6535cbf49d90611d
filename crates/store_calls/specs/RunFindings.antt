-- What the steps of a call find of an index, as the code has it.
use Rattle.std.specs.Prelude.{◌≡◌, ◌⊎◌, ℕ, ◌<◌, ◌==◌, true, false, List, ◌∷◌, ◌++◌, length, map, slice_get, Option, Some, None, Ok, IsOk, IsErr}
use Rattle.std.specs.List.{list_all}
use Rattle.std.specs.Map.{lookup}
use Rattle.world_core.specs.Plans.{Keeps}
use Rattle.block_keys.specs.declared.key.Key.TheVariants.{Index}
use Rattle.index_parts.specs.declared.toc_reading.Toc.{Toc}
use Rattle.index_parts.specs.ContentsReading.{toc_at}
use Rattle.index_parts.specs.SymbolsReading.{symbols_at}
use Rattle.index_parts.specs.RowsReading.{postings_table_at}
use Rattle.index_parts.specs.Contents.{contents_size}
use Rattle.index_parts.specs.Parts.{known}
use Rattle.store_ranges.specs.Caches.{same_range}
use Rattle.index_parts.specs.declared.index_series.IndexSeries.{IndexSeries}
use Rattle.index_parts.specs.Opened.{Opened}
use Rattle.index_v2.specs.Opening.{opened_at}
use Rattle.index_v2.specs.PostingsLists.{list_of}
use Rattle.index_v2.specs.WholeReading.{lists_at}
use Rattle.index_v2.specs.SeriesLabels.{numbered_at}
use Rattle.series_selection.specs.Selections.{rows_read}
use Rattle.base.specs.Firsts.{each_at}
use Rattle.store_ranges.specs.IndexRanges.{Run, has_bytes, has_sections}
use Rattle.store_ranges.specs.Reads.{Query, Block, Cache, range_of}
use Rattle.store_ranges.specs.IndexReads.{Tables, reached, part_at, tables_of, IsTakenBy}
use Rattle.store_ranges.specs.Asking.{query_asked, block_asked, piece_of}
use Rattle.store_ranges.specs.ToRead.{run_read, AreRunsToRead}
use Rattle.store_calls.specs.WorkStates.{whole_left, runs_left, chunks_left, tables_in, texts_of, symbols_piece, table_piece, lists_piece}
use Rattle.store_ranges.specs.declared.asked.Asked.{Asked}
use Rattle.store_ranges.specs.declared.sections.Sections.{Sections}
use Rattle.store_ranges.specs.declared.run_read.RunRead.{RunRead}
use Rattle.store_calls.specs.declared.run_steps.Taken.{Taken}
use Rattle.store_calls.specs.declared.run_steps.Taken.TheVariants.{Waits, All, Refused}
use Rattle.store_calls.specs.declared.work.SymbolsRead.{SymbolsRead}
use Rattle.store_calls.specs.declared.work.TablesRead.{TablesRead}

-- a table of contents with the sections that are read, in an index of so many bytes
abbrev pub HasSections : Toc → ℕ → Option Sections → Type 0
HasSections toc size (Some places) = (places.toc ≡ toc) × (places.size ≡ size) × (has_sections toc size ≡ true)
HasSections toc size None = has_sections toc size ≡ false

-- the same of the bytes that are read for it
abbrev pub FindsSections : ℕ → List ℕ → Option Sections → Type 0
FindsSections size bytes (Some places) =
    (length bytes ≡ contents_size) × (toc_at bytes ≡ Ok places.toc) × (places.size ≡ size) × (has_sections places.toc size ≡ true)
FindsSections size bytes None =
    ((length bytes == contents_size) ≡ false) ⊎ IsErr (toc_at bytes) ⊎ ((toc : Toc) × (toc_at bytes ≡ Ok toc) × (has_sections toc size ≡ false))

-- the bytes of the symbols are as many as were asked for, and symbols
abbrev pub TestsSymbols : Sections → List ℕ → Option SymbolsRead → Type 0
TestsSymbols places bytes (Some read) =
    (read.places ≡ places) × (length bytes ≡ (symbols_piece places).len)
    × (symbols_at (known (part_at (symbols_piece places) bytes)) places.toc.symbols ≡ Ok (texts_of read))
TestsSymbols places bytes None =
    ((length bytes == (symbols_piece places).len) ≡ false) ⊎ IsErr (symbols_at (known (part_at (symbols_piece places) bytes)) places.toc.symbols)

-- and those of the postings table
abbrev pub TestsTable : SymbolsRead → List ℕ → Option TablesRead → Type 0
TestsTable first bytes (Some read) =
    (read.first ≡ first) × (read.table ≡ bytes) × (length bytes ≡ (table_piece first.places).len)
    × IsOk (postings_table_at (known (part_at (table_piece first.places) bytes)) first.places.toc.postings_table)
TestsTable first bytes None =
    ((length bytes == (table_piece first.places).len) ≡ false) ⊎ IsErr (postings_table_at (known (part_at (table_piece first.places) bytes)) first.places.toc.postings_table)

-- The runs of the series that the selector takes, or one of the lists that it needs is refused.
pub record AreSelectedRuns (query : Query) (block : Block) (toc : Toc) (size : ℕ) (tables : Tables) (runs : List RunRead) : Type 0 where
  pub all : List ℕ
  pub all_are : list_of tables.lists (slice_get tables.rows 0) ≡ Ok all
  pub lists : IsOk (lists_at tables.lists (rows_read block.external tables.rows query.selector))
  pub numbers : List ℕ
  pub taken : IsTakenBy query block tables numbers
  pub runs_are : AreRunsToRead toc size all numbers runs

abbrev pub SelectsRuns : Query → Block → Toc → ℕ → Tables → Option (List RunRead) → Type 0
SelectsRuns query block toc size tables (Some runs) = AreSelectedRuns query block toc size tables runs
SelectsRuns query block toc size tables None =
    IsErr (list_of tables.lists (slice_get tables.rows 0)) ⊎ IsErr (lists_at tables.lists (rows_read block.external tables.rows query.selector))

-- the runs that are to be read by the bytes of the postings lists
abbrev pub FindsRuns : Asked → TablesRead → List ℕ → Option (List RunRead) → Type 0
FindsRuns asked read lists (Some runs) =
    (length lists ≡ (lists_piece read.first.places).len)
    × AreSelectedRuns (query_asked asked) (block_asked asked) read.first.places.toc read.first.places.size (tables_in read lists) runs
    × (list_all (λ run. has_bytes run.piece) (map run_read runs) ≡ true)
FindsRuns asked read lists None =
    ((length lists == (lists_piece read.first.places).len) ≡ false)
    ⊎ SelectsRuns (query_asked asked) (block_asked asked) read.first.places.toc read.first.places.size (tables_in read lists) None
    ⊎ ((runs : List RunRead) × AreSelectedRuns (query_asked asked) (block_asked asked) read.first.places.toc read.first.places.size (tables_in read lists) runs
    × (list_all (λ run. has_bytes run.piece) (map run_read runs) ≡ false))

-- The bytes of a run are as many as were asked for, and its series stand behind others.
abbrev pub TakesRun : List (List ℕ) → Run → List ℕ → List IndexSeries → Option (List IndexSeries) → Type 0
TakesRun symbols run bytes series (Some all) =
    (length bytes ≡ run.piece.len) × (more : List IndexSeries) × (each_at (numbered_at (known (part_at run.piece bytes)) symbols) run.numbers ≡ Ok more) × (all ≡ series ++ more)
TakesRun symbols run bytes series None =
    ((length bytes == run.piece.len) ≡ false) ⊎ IsErr (each_at (numbered_at (known (part_at run.piece bytes)) symbols) run.numbers)

-- The cache was asked for runs, up to one that it has not got.
abbrev pub GoesOnRuns : Asked → List (List ℕ) → ℕ → Cache → Cache → List RunRead → List IndexSeries → Taken → Type 0
GoesOnRuns asked symbols last old new runs series (Waits run later taken) =
    (lookup (same_range (range_of (Index asked.ulid) (piece_of run.range))) new.entries ≡ None) × (length later.items < length runs)
    × Keeps (runs_left asked symbols (run_read run ∷ map run_read later.items) (reached last new) taken.items) (runs_left asked symbols (map run_read runs) (reached last old) series)
GoesOnRuns asked symbols last old new runs series (All taken) =
    Keeps (chunks_left asked (reached last new) taken.items) (runs_left asked symbols (map run_read runs) (reached last old) series)
GoesOnRuns asked symbols last old new runs series Refused =
    Keeps (whole_left asked new) (runs_left asked symbols (map run_read runs) (reached last old) series)

-- The bytes are an index, and these are the series that the selector takes from it.
abbrev pub FindsSeries : Query → Block → List ℕ → Option (List IndexSeries) → Type 0
FindsSeries query block bytes (Some series) =
    (opened : Opened) × (opened_at bytes ≡ Ok opened) × (all : List ℕ) × (list_of (tables_of opened).lists (slice_get opened.rows 0) ≡ Ok all)
    × IsOk (lists_at (tables_of opened).lists (rows_read block.external opened.rows query.selector))
    × (numbers : List ℕ) × IsTakenBy query block (tables_of opened) numbers × (each_at (numbered_at bytes opened.symbols) numbers ≡ Ok series)
FindsSeries query block bytes None =
    IsErr (opened_at bytes)
    ⊎ ((opened : Opened) × (opened_at bytes ≡ Ok opened)
    × (IsErr (list_of (tables_of opened).lists (slice_get opened.rows 0)) ⊎ IsErr (lists_at (tables_of opened).lists (rows_read block.external opened.rows query.selector))))
    ⊎ ((opened : Opened) × (opened_at bytes ≡ Ok opened) × (all : List ℕ) × (list_of (tables_of opened).lists (slice_get opened.rows 0) ≡ Ok all)
    × IsOk (lists_at (tables_of opened).lists (rows_read block.external opened.rows query.selector))
    × (numbers : List ℕ) × IsTakenBy query block (tables_of opened) numbers × IsErr (each_at (numbered_at bytes opened.symbols) numbers))
