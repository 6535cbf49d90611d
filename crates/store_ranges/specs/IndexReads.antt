-- The reads of a block's index: a few ranges of it, or the whole where these do not do.
use Rattle.std.specs.Prelude.{◌≡◌, ℕ, ◌==◌, nat_le, Bool, List, [], ◌∷◌, ◌++◌, length, map, slice_get, Option, Some, None, Ok}
use Rattle.std.specs.List.{list_all}
use Rattle.block_keys.specs.declared.key.Key.TheVariants.{Index}
use Rattle.world_core.specs.Plans.{Plan, ends, finds, choose}
use Rattle.world_core.specs.declared.op.Op.TheVariants.{Get, GetRange}
use Rattle.index_parts.specs.declared.toc_reading.Toc.{Toc}
use Rattle.index_parts.specs.declared.postings_row.PostingsRow.{PostingsRow}
use Rattle.index_parts.specs.ContentsReading.{toc_at}
use Rattle.index_parts.specs.SymbolsReading.{symbols_at}
use Rattle.index_parts.specs.RowsReading.{postings_table_at}
use Rattle.index_parts.specs.Contents.{contents_size}
use Rattle.index_parts.specs.Parts.{Part, file, known}
use Rattle.index_parts.specs.Opened.{Opened}
use Rattle.index_parts.specs.declared.index_series.IndexSeries.{IndexSeries}
use Rattle.index_parts.specs.IndexFile.{least_size}
use Rattle.index_v2.specs.Opening.{opened_at}
use Rattle.index_v2.specs.PostingsLists.{list_of}
use Rattle.index_v2.specs.WholeReading.{lists_at}
use Rattle.index_v2.specs.SeriesLabels.{numbered_at}
use Rattle.series_selection.specs.Selections.{IsSelection, rows_read}
use Rattle.base.specs.Firsts.{each_at}
use Rattle.store_ranges.specs.OneCut.{one_cut}
use Rattle.store_ranges.specs.OneSet.{one_selection}
use Rattle.store_ranges.specs.IndexRanges.{Piece, has_bytes, contents_piece, section_piece, has_sections, Follows, AreRuns, Run, run_of}
use Rattle.store_ranges.specs.Reads.{Query, Block, Cache, Break, damaged, Reached, reads, takes, if_read}

-- what is known of an index before its series are read: its symbols, the rows of its postings table, and where its lists are
pub record Tables : Type 0 where
  pub symbols : List (List ℕ)
  pub rows : List PostingsRow
  pub lists : Part

abbrev pub tables_of : Opened → Tables
tables_of opened = record { symbols = opened.symbols; rows = opened.rows; lists = file opened.bytes }

-- the bytes of a range, as a part of the index
abbrev pub part_at : Piece → List ℕ → Part
part_at piece bytes = record { begin = piece.from; bytes = bytes }

-- The selector takes the series of these numbers, by the postings lists that are read.
abbrev pub IsTakenBy : Query → Block → Tables → List ℕ → Type 0
IsTakenBy query block tables =
    IsSelection (λ row numbers. list_of tables.lists (Some row) ≡ Ok numbers) tables.rows block.external query.selector

abbrev pub reached : ℕ → Cache → Reached
reached last cache = record { last = last; cache = cache }

module _ {E : Type 0} (breaks : Break → Cache → E) (query : Query) (block : Block) where
  -- what follows the series that the selector takes: in the order of the index, and with what was reached
  abbrev pub Goes : Type 1
  Goes = Reached → List IndexSeries → Plan E

  -- The numbers of all series and of those that the selector takes. All lists that it needs are read, and one that is refused
  -- is what decides.
  abbrev pub selects : Tables → Plan E → (List ℕ → List ℕ → Plan E) → Plan E
  selects tables refused next =
      if_read (list_of tables.lists (slice_get tables.rows 0))
      (λ all. if_read (lists_at tables.lists (rows_read block.external tables.rows query.selector))
      (λ lists. finds (IsTakenBy query block tables) (one_selection _ tables.rows block.external query.selector) (next all)) refused) refused

  -- ---- the whole index

  -- what follows its bytes: what it refuses is damaged
  abbrev pub after_whole : Cache → Goes → ℕ → List ℕ → Plan E
  after_whole cache next seq bytes =
      if_read (opened_at bytes)
      (λ opened. selects (tables_of opened) (ends (breaks (damaged seq) cache))
      (λ all numbers. if_read (each_at (numbered_at bytes opened.symbols) numbers) (next (reached seq cache)) (ends (breaks (damaged seq) cache))))
      (ends (breaks (damaged seq) cache))

  abbrev pub reads_whole : Goes → Cache → Plan E
  reads_whole next cache = reads breaks (Get (Index block.ulid)) cache (after_whole cache next)

  -- ---- ranges of it: whatever is not as it should be, the whole index is read at once

  abbrev pub falls_back : Goes → Reached → Plan E
  falls_back next at = reads_whole next at.cache

  -- what follows the bytes of a run: its series stand behind those that were taken before
  abbrev pub after_run : List (List ℕ) → Goes → Run → Goes → List IndexSeries → Reached → List ℕ → Plan E
  after_run symbols next run rest series so bytes =
      if_read (each_at (numbered_at (known (part_at run.piece bytes)) symbols) run.numbers)
      (λ more. rest so (series ++ more)) (falls_back next so)

  -- the series of these runs, run by run
  abbrev pub reads_runs : List (List ℕ) → Goes → List Run → Reached → List IndexSeries → Plan E
  reads_runs symbols next [] at series = next at series
  reads_runs symbols next (run ∷ runs) at series =
      takes breaks (Index block.ulid) run.piece at (falls_back next) (after_run symbols next run (reads_runs symbols next runs) series)

  -- each run begins before its end
  abbrev pub have_bytes : List Run → Bool
  have_bytes runs = list_all (λ run. has_bytes run.piece) runs

  -- what follows the runs
  abbrev pub after_runs : Goes → Reached → List (List ℕ) → List Run → Plan E
  after_runs next at symbols runs = choose (have_bytes runs) (reads_runs symbols next runs at []) (falls_back next at)

  -- what follows the three sections
  abbrev pub after_sections : ℕ → Toc → Goes → Reached → Tables → Plan E
  after_sections size toc next at tables =
      selects tables (falls_back next at)
      (λ all numbers. finds (AreRuns all numbers) (one_cut (Follows all) numbers)
      (λ runs. after_runs next at tables.symbols (map (run_of toc size all) runs)))

  -- the symbols, the postings table and the postings lists, in this order
  abbrev pub after_lists : ℕ → Toc → Goes → List (List ℕ) → List PostingsRow → Reached → List ℕ → Plan E
  after_lists size toc next symbols rows at bytes =
      after_sections size toc next at (record { symbols = symbols; rows = rows; lists = part_at (section_piece toc size toc.postings) bytes })

  abbrev pub after_table : ℕ → Toc → Goes → List (List ℕ) → Reached → List ℕ → Plan E
  after_table size toc next symbols at bytes =
      if_read (postings_table_at (known (part_at (section_piece toc size toc.postings_table) bytes)) toc.postings_table)
      (λ rows. takes breaks (Index block.ulid) (section_piece toc size toc.postings) at (falls_back next) (after_lists size toc next symbols rows))
      (falls_back next at)

  abbrev pub after_symbols : ℕ → Toc → Goes → Reached → List ℕ → Plan E
  after_symbols size toc next at bytes =
      if_read (symbols_at (known (part_at (section_piece toc size toc.symbols) bytes)) toc.symbols)
      (λ symbols. takes breaks (Index block.ulid) (section_piece toc size toc.postings_table) at (falls_back next) (after_table size toc next symbols))
      (falls_back next at)

  abbrev pub reads_sections : ℕ → Toc → Goes → Reached → Plan E
  reads_sections size toc next at =
      takes breaks (Index block.ulid) (section_piece toc size toc.symbols) at (falls_back next) (after_symbols size toc next)

  -- what follows the table of contents
  abbrev pub after_contents : ℕ → Goes → Cache → ℕ → List ℕ → Plan E
  after_contents size next cache seq bytes =
      choose (length bytes == contents_size)
      (if_read (toc_at bytes)
      (λ toc. choose (has_sections toc size) (reads_sections size toc next (reached seq cache)) (reads_whole next cache))
      (reads_whole next cache))
      (reads_whole next cache)

  -- the table of contents is never taken from the cache
  abbrev pub reads_contents : ℕ → Goes → Cache → Plan E
  reads_contents size next cache =
      reads breaks (GetRange (Index block.ulid) (contents_piece size).from (contents_piece size).len) cache (after_contents size next cache)

  abbrev pub by_size : Option ℕ → Goes → Cache → Plan E
  by_size None next cache = reads_whole next cache
  by_size (Some size) next cache = choose (nat_le least_size size) (reads_contents size next cache) (reads_whole next cache)

  -- The reads of the index, up to the series that the selector takes.
  abbrev pub reads_index : Cache → Goes → Plan E
  reads_index cache next = by_size block.index_size next cache
