-- The series that a selector takes, by a reader of the whole index or of parts of it.
use Rattle.std.proofs.Common.{◌≡◌, Vec, Global, ℕ, List, sym, ap, subst, inr, Option, Some, None, Result, Ok, Err}
use Rattle.std.specs.Prelude.{IsErr, IfOk, option_map}
use Rattle.base.specs.declared.memory.NoMemory.{NoMemory}
use Rattle.index_parts.specs.declared.toc_reading.Toc.{Toc}
use Rattle.index_parts.specs.RowsReading.{postings_table_at}
use Rattle.index_parts.specs.Parts.{file, known}
use Rattle.index_parts.specs.declared.index_series.IndexSeries.{IndexSeries}
use Rattle.index_v2.specs.Held.{Held, opened_of}
use Rattle.index_v2.specs.Opening.{opened_at}
use Rattle.index_v2.specs.SeriesLabels.{numbered_at}
use Rattle.base.specs.Firsts.{each_at}
use Rattle.store_ranges.specs.Reads.{Query, Block}
use Rattle.store_ranges.specs.IndexReads.{Tables, tables_of, part_at}
use Rattle.store_ranges.specs.Findings.{ReadsAs}
use Rattle.store_ranges.specs.Selecting.{tables_held, Selects}
use Rattle.store_ranges.specs.ToRead.{AreRunsToRead}
use Rattle.store_calls.specs.WorkStates.{tables_in, texts_of, read_or_none, table_piece, lists_piece}
use Rattle.store_calls.specs.RunFindings.{FindsSeries, SelectsRuns}
use Rattle.store_ranges.specs.declared.selection.Selection.{Selection}
use Rattle.store_ranges.specs.declared.run_read.RunRead.{RunRead}
use Rattle.store_calls.specs.declared.work.TablesRead.{TablesRead}

-- ---- the whole index

module _ (query : Query) (block : Block) (bytes : List ℕ) (reader : Held) (is : opened_at bytes ≡ Ok (opened_of reader)) (held : reader.bytes ≡ bytes) (lists : reader.lists ≡ file reader.bytes) where
  same_whole : tables_held reader ≡ tables_of (opened_of reader)
  same_whole = λ i. record { symbols = reader.symbols; rows = reader.rows; lists = lists i }

  pub whole_found : (selection : Selection) (found : Option (Vec IndexSeries Global)) → Selects query block (tables_held reader) (Some selection)
      → ReadsAs (λ (all : Vec IndexSeries Global). all.items) (each_at (numbered_at reader.bytes reader.symbols) selection.numbers) found
      → FindsSeries query block bytes (option_map (λ (all : Vec IndexSeries Global). all.items) found)
  whole_found selection (Some all) selects read =
      let here = subst (λ (t : Tables). Selects query block t (Some selection)) same_whole selects in (
        opened_of reader,
        is,
        selection.all,
        here.0,
        here.1,
        selection.numbers,
        here.2,
        subst (λ (b : List ℕ). each_at (numbered_at b reader.symbols) selection.numbers ≡ Ok all.items) held read,
      )
  whole_found selection None selects read =
      let here = subst (λ (t : Tables). Selects query block t (Some selection)) same_whole selects in
      inr (inr (
        opened_of reader,
        is,
        selection.all,
        here.0,
        here.1,
        selection.numbers,
        here.2,
        subst (λ (b : List ℕ). IsErr (each_at (numbered_at b reader.symbols) selection.numbers)) held read,
      ))

  -- the same of a call that may have wanted memory
  pub whole_found_in : (selection : Selection) (numbers : List ℕ) (r : Result (Option (Vec IndexSeries Global)) NoMemory) → Selects query block (tables_held reader) (Some selection) → numbers ≡ selection.numbers
      → IfOk r (ReadsAs (λ (all : Vec IndexSeries Global). all.items) (each_at (numbered_at reader.bytes reader.symbols) numbers))
      → IfOk r (λ found. FindsSeries query block bytes (option_map (λ (all : Vec IndexSeries Global). all.items) found))
  whole_found_in selection numbers (Ok found) selects same read =
      whole_found selection found selects (subst (λ (l : List ℕ). ReadsAs (λ (all : Vec IndexSeries Global). all.items) (each_at (numbered_at reader.bytes reader.symbols) l) found) same read)
  whole_found_in selection numbers (Err none) selects same read = tt

-- ---- parts of it

module _ (read : TablesRead) (lists : List ℕ) (reader : Held)
    (rows : postings_table_at (known (part_at (table_piece read.first.places) read.table)) read.first.places.toc.postings_table ≡ Ok reader.rows)
    (there : reader.lists ≡ part_at (lists_piece read.first.places) lists) where
  -- what the reader has, with the symbols beside it
  abbrev beside : Tables
  beside = record { symbols = texts_of read.first; rows = reader.rows; lists = reader.lists }

  same_parts : beside ≡ tables_in read lists
  same_parts = λ i. record { symbols = texts_of read.first; rows = sym (ap read_or_none rows) i; lists = there i }

  pub parts_found : (query : Query) (block : Block) (toc : Toc) (size : ℕ) (selection : Selection) (runs : List RunRead) → Selects query block (tables_held reader) (Some selection)
      → AreRunsToRead toc size selection.all selection.numbers runs → SelectsRuns query block toc size (tables_in read lists) (Some runs)
  parts_found query block toc size selection runs selects are =
      let here = subst (λ (t : Tables). Selects query block t (Some selection)) same_parts selects in
      record { all = selection.all; all_are = here.0; lists = here.1; numbers = selection.numbers; taken = here.2; runs_are = are }
