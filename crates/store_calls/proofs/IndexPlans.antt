-- How the plan of the reads of an index goes on, by what was found.
use Rattle.std.proofs.Common.{◌≡◌, ℕ, ◌<◌, ◌≤◌, ◌==◌, Bool, true, false, List, [], length, map, refl, sym, subst, inl, inr, Option, Some, None, Result, Ok, Err}
use Rattle.std.specs.Prelude.{◌⊎◌, nat_le, slice_get, IsErr, IsOk}
use Rattle.std.specs.List.{list_all}
use Rattle.std.proofs.lemmas.Bool.{le-leb, lt-leb}
use Rattle.std.proofs.lemmas.Bool.Decides.{Decides-eqb}
use Rattle.world_core.specs.Plans.{Plan, Keeps, ends, choose, finds}
use Rattle.index_parts.specs.declared.toc_reading.Toc.{Toc}
use Rattle.index_parts.specs.ContentsReading.{toc_at}
use Rattle.index_parts.specs.SymbolsReading.{symbols_at}
use Rattle.index_parts.specs.RowsReading.{postings_table_at}
use Rattle.index_parts.specs.Contents.{contents_size}
use Rattle.index_parts.specs.Parts.{known}
use Rattle.index_parts.specs.declared.index_series.IndexSeries.{IndexSeries}
use Rattle.index_parts.specs.IndexFile.{least_size}
use Rattle.index_v2.specs.Opening.{opened_at}
use Rattle.index_v2.specs.PostingsLists.{list_of}
use Rattle.index_v2.specs.WholeReading.{lists_at}
use Rattle.index_v2.specs.SeriesLabels.{numbered_at}
use Rattle.series_selection.specs.Selections.{rows_read}
use Rattle.base.specs.Firsts.{each_at}
use Rattle.store_ranges.specs.OneCut.{one_cut}
use Rattle.store_ranges.specs.OneSet.{one_selection}
use Rattle.store_ranges.specs.IndexRanges.{Run, has_bytes, has_sections, Follows, AreRuns, run_of}
use Rattle.store_ranges.specs.Reads.{Query, Block, Cache, damaged, Reached, if_read}
use Rattle.store_ranges.specs.IndexReads.{Tables, tables_of, IsTakenBy, Goes, reached, part_at, selects, falls_back, after_runs, after_sections, after_contents, after_whole, by_size}
use Rattle.store_calls.specs.BlockReads.{BlockEnd, breaks_off, block_call}
use Rattle.store_ranges.specs.Asking.{query_asked, block_asked}
use Rattle.store_ranges.specs.ToRead.{run_read, AreRunsToRead}
use Rattle.store_calls.specs.WorkStates.{after_index, contents_left, whole_left, range_left, sized_left, runs_left, chunks_left, with_symbols, with_table, with_lists, with_run, symbols_piece, table_piece, lists_piece, rows_in, texts_of, tables_in, read_or_none}
use Rattle.store_calls.specs.RunFindings.{FindsSections, TestsSymbols, TestsTable, FindsRuns, FindsSeries, AreSelectedRuns, TakesRun}
use Rattle.store_ranges.specs.declared.asked.Asked.{Asked}
use Rattle.store_ranges.specs.declared.sections.Sections.{Sections}
use Rattle.store_ranges.specs.declared.run_read.RunRead.{RunRead}
use Rattle.store_calls.specs.declared.work.SymbolsRead.{SymbolsRead}
use Rattle.store_calls.specs.declared.work.TablesRead.{TablesRead}
use Rattle.store_calls.proofs.Leading.{keeps_all, keeps_on, keeps_true, keeps_false, keeps_read, keeps_refused, keeps_found, keeps_sized, keeps_unsized}

ok_read : {A R : Type 0} (r : Result (List A) R) → IsOk r → r ≡ Ok (read_or_none r)
ok_read (Ok value) is = refl
ok_read (Err e) is = absurd (cc (is))

ok_value : {A R : Type 0} (r : Result A R) → IsOk r → (value : A) × (r ≡ Ok value)
ok_value (Ok value) is = (value, refl)
ok_value (Err e) is = absurd (cc (is))

-- what was read, and then what follows it
reads_on : {A R E : Type 0} (read : Result A R) (value : A) (next : A → Plan E) (refused one : Plan E) → read ≡ Ok value → Keeps one (next value) → Keeps one (if_read read next refused)
reads_on read value next refused one is keeps = keeps_on one (next value) (if_read read next refused) keeps (keeps_read read value next refused is)

chooses : {E : Type 0} (test : Bool) (one other from : Plan E) → test ≡ true → Keeps from one → Keeps from (choose test one other)
chooses test one other from is keeps = keeps_on from one (choose test one other) keeps (keeps_true test one other is)

-- the same follows where a test does not hold
either : {E : Type 0} (test : Bool) (one from : Plan E) → Keeps from one → Keeps from (choose test one from)
either true one from keeps = keeps
either false one from keeps = keeps_all from

-- or a value is read, and it follows too
refused_or : {A R E : Type 0} (read : Result A R) (next : A → Plan E) (from : Plan E) → ((value : A) → read ≡ Ok value → Keeps from (next value)) → Keeps from (if_read read next from)
refused_or (Ok value) next from keeps = keeps value refl
refused_or (Err e) next from keeps = keeps_all from

module _ (asked : Asked) where
  abbrev Q : Query
  Q = query_asked asked

  abbrev B : Block
  B = block_asked asked

  abbrev Next : Goes {E = BlockEnd} breaks_off Q B
  Next = after_index Q B

  -- ---- the begin

  pub begins_by : (cache : Cache) (size : Option ℕ) → size ≡ B.index_size → Keeps (by_size breaks_off Q B size Next cache) (block_call Q B cache)
  begins_by cache size is = subst (λ (s : Option ℕ). Keeps (by_size breaks_off Q B size Next cache) (by_size breaks_off Q B s Next cache)) is (keeps_all (by_size breaks_off Q B size Next cache))

  pub sized_contents : (cache : Cache) (size : ℕ) → 57 ≤ size → Keeps (contents_left asked size cache) (by_size breaks_off Q B (Some size) Next cache)
  sized_contents cache size long = keeps_true (nat_le least_size size) (contents_left asked size cache) (whole_left asked cache) (le-leb least_size size long)

  pub sized_whole : (cache : Cache) (size : ℕ) → size < 57 → Keeps (whole_left asked cache) (by_size breaks_off Q B (Some size) Next cache)
  sized_whole cache size small = keeps_false (nat_le least_size size) (contents_left asked size cache) (whole_left asked cache) (lt-leb least_size size small)

  -- ---- the table of contents

  pub contents_read : (places : Sections) (size : ℕ) (cache : Cache) (seq : ℕ) (bytes : List ℕ) → FindsSections size bytes (Some places)
      → Keeps (range_left asked (symbols_piece places) (reached seq cache) (with_symbols asked places)) (after_contents breaks_off Q B size Next cache seq bytes)
  contents_read places size cache seq bytes (long, read, same, has) =
      subst (λ n. Keeps (range_left asked (symbols_piece places) (reached seq cache) (with_symbols asked places)) (after_contents breaks_off Q B n Next cache seq bytes)) same
      (chooses (length bytes == contents_size) _ _ _ ((Decides-eqb (length bytes) contents_size).1 long)
      (reads_on (toc_at bytes) places.toc _ _ _ read
      (keeps_true (has_sections places.toc places.size) _ _ (subst (λ n. has_sections places.toc n ≡ true) (sym same) has))))

  pub contents_refused : (size : ℕ) (cache : Cache) (seq : ℕ) (bytes : List ℕ) → FindsSections size bytes None
      → Keeps (whole_left asked cache) (after_contents breaks_off Q B size Next cache seq bytes)
  contents_refused size cache seq bytes (inl unlike) = keeps_false (length bytes == contents_size) _ _ unlike
  contents_refused size cache seq bytes (inr (inl refused)) = either (length bytes == contents_size) _ _ (keeps_refused (toc_at bytes) _ _ refused)
  contents_refused size cache seq bytes (inr (inr (toc, read, has))) =
      either (length bytes == contents_size) _ _ (reads_on (toc_at bytes) toc _ _ (whole_left asked cache) read (keeps_false (has_sections toc size) _ (whole_left asked cache) has))

  -- ---- the symbols and the postings table

  pub symbols_read : (places : Sections) (bytes : List ℕ) (read : SymbolsRead) (last : ℕ) (cache : Cache) → TestsSymbols places bytes (Some read)
      → Keeps (range_left asked (table_piece read.places) (reached last cache) (with_table asked read)) (sized_left asked (symbols_piece places) (reached last cache) (with_symbols asked places) bytes)
  symbols_read places bytes read last cache (same, long, is) =
      keeps_on _ _ _
      (subst (λ p. Keeps (range_left asked (table_piece read.places) (reached last cache) (with_table asked read)) (with_symbols asked p (reached last cache) bytes)) same
      (keeps_read (symbols_at (known (part_at (symbols_piece read.places) bytes)) read.places.toc.symbols) (texts_of read) _ _
      (subst (λ p. symbols_at (known (part_at (symbols_piece p) bytes)) p.toc.symbols ≡ Ok (texts_of read)) (sym same) is)))
      (keeps_sized asked (symbols_piece places) (reached last cache) (with_symbols asked places) bytes long)

  pub symbols_refused : (places : Sections) (bytes : List ℕ) (last : ℕ) (cache : Cache) → TestsSymbols places bytes None
      → Keeps (whole_left asked cache) (sized_left asked (symbols_piece places) (reached last cache) (with_symbols asked places) bytes)
  symbols_refused places bytes last cache (inl unlike) = keeps_unsized asked (symbols_piece places) (reached last cache) (with_symbols asked places) bytes unlike
  symbols_refused places bytes last cache (inr refused) =
      either (length bytes == (symbols_piece places).len) _ _ (keeps_refused (symbols_at (known (part_at (symbols_piece places) bytes)) places.toc.symbols) _ _ refused)

  pub table_read : (first : SymbolsRead) (bytes : List ℕ) (read : TablesRead) (last : ℕ) (cache : Cache) → TestsTable first bytes (Some read)
      → Keeps (range_left asked (lists_piece read.first.places) (reached last cache) (with_lists asked read)) (sized_left asked (table_piece first.places) (reached last cache) (with_table asked first) bytes)
  table_read first bytes read last cache (same, held, long, is) =
      keeps_on _ _ _
      (subst (λ b. Keeps (range_left asked (lists_piece read.first.places) (reached last cache) (with_lists asked read)) (with_table asked first (reached last cache) b)) held
      (subst (λ f. Keeps (range_left asked (lists_piece read.first.places) (reached last cache) (with_lists asked read)) (with_table asked f (reached last cache) read.table)) same
      (keeps_read (postings_table_at (known (part_at (table_piece read.first.places) read.table)) read.first.places.toc.postings_table) (rows_in read.first.places read.table) _ _
      (ok_read _ (subst (λ f. IsOk (postings_table_at (known (part_at (table_piece f.places) read.table)) f.places.toc.postings_table)) (sym same) (subst (λ b. IsOk (postings_table_at (known (part_at (table_piece first.places) b)) first.places.toc.postings_table)) (sym held) is))))))
      (keeps_sized asked (table_piece first.places) (reached last cache) (with_table asked first) bytes long)

  pub table_refused : (first : SymbolsRead) (bytes : List ℕ) (last : ℕ) (cache : Cache) → TestsTable first bytes None
      → Keeps (whole_left asked cache) (sized_left asked (table_piece first.places) (reached last cache) (with_table asked first) bytes)
  table_refused first bytes last cache (inl unlike) = keeps_unsized asked (table_piece first.places) (reached last cache) (with_table asked first) bytes unlike
  table_refused first bytes last cache (inr refused) =
      either (length bytes == (table_piece first.places).len) _ _ (keeps_refused (postings_table_at (known (part_at (table_piece first.places) bytes)) first.places.toc.postings_table) _ _ refused)

  -- ---- the postings lists

  selects_on : (tables : Tables) (refused : Plan BlockEnd) (next : List ℕ → List ℕ → Plan BlockEnd) (all numbers : List ℕ) → list_of tables.lists (slice_get tables.rows 0) ≡ Ok all
      → IsOk (lists_at tables.lists (rows_read B.external tables.rows Q.selector)) → IsTakenBy Q B tables numbers → Keeps (next all numbers) (selects breaks_off Q B tables refused next)
  selects_on tables refused next all numbers are lists taken =
      let read = ok_value (lists_at tables.lists (rows_read B.external tables.rows Q.selector)) lists in
      reads_on (list_of tables.lists (slice_get tables.rows 0)) all _ _ _ are
      (reads_on (lists_at tables.lists (rows_read B.external tables.rows Q.selector)) read.0 _ _ _ read.1
      (keeps_found (IsTakenBy Q B tables) (one_selection _ tables.rows B.external Q.selector) (next all) numbers taken))

  selects_refused : (tables : Tables) (refused : Plan BlockEnd) (next : List ℕ → List ℕ → Plan BlockEnd)
      → IsErr (list_of tables.lists (slice_get tables.rows 0)) ⊎ IsErr (lists_at tables.lists (rows_read B.external tables.rows Q.selector)) → Keeps refused (selects breaks_off Q B tables refused next)
  selects_refused tables refused next (inl is) = keeps_refused (list_of tables.lists (slice_get tables.rows 0)) _ _ is
  selects_refused tables refused next (inr is) =
      refused_or (list_of tables.lists (slice_get tables.rows 0)) _ _ (λ all e. keeps_refused (lists_at tables.lists (rows_read B.external tables.rows Q.selector)) _ _ is)

  -- what follows the runs of the series that were selected
  runs_found : (toc : Toc) (size : ℕ) (at : Reached) (symbols : List (List ℕ)) (all numbers : List ℕ) (runs : List RunRead) → AreRunsToRead toc size all numbers runs
      → Keeps (after_runs breaks_off Q B Next at symbols (map run_read runs)) (finds (AreRuns all numbers) (one_cut (Follows all) numbers) (λ cut. after_runs breaks_off Q B Next at symbols (map (run_of toc size all) cut)))
  runs_found toc size at symbols all numbers runs (cut, are, same) =
      subst (λ rs. Keeps (after_runs breaks_off Q B Next at symbols rs) (finds (AreRuns all numbers) (one_cut (Follows all) numbers) (λ cut. after_runs breaks_off Q B Next at symbols (map (run_of toc size all) cut)))) (sym same)
      (keeps_found (AreRuns all numbers) (one_cut (Follows all) numbers) (λ cut. after_runs breaks_off Q B Next at symbols (map (run_of toc size all) cut)) cut are)

  sections_on : (toc : Toc) (size : ℕ) (at : Reached) (tables : Tables) (runs : List RunRead) → AreSelectedRuns Q B toc size tables runs
      → Keeps (after_runs breaks_off Q B Next at tables.symbols (map run_read runs)) (after_sections breaks_off Q B size toc Next at tables)
  sections_on toc size at tables runs is =
      keeps_on (after_runs breaks_off Q B Next at tables.symbols (map run_read runs))
      (finds (AreRuns is.all is.numbers) (one_cut (Follows is.all) is.numbers) (λ cut. after_runs breaks_off Q B Next at tables.symbols (map (run_of toc size is.all) cut)))
      (after_sections breaks_off Q B size toc Next at tables) (runs_found toc size at tables.symbols is.all is.numbers runs is.runs_are)
      (selects_on tables (falls_back breaks_off Q B Next at)
      (λ all numbers. finds (AreRuns all numbers) (one_cut (Follows all) numbers) (λ cut. after_runs breaks_off Q B Next at tables.symbols (map (run_of toc size all) cut))) is.all is.numbers is.all_are is.lists is.taken)

  pub lists_read : (read : TablesRead) (lists : List ℕ) (runs : List RunRead) (last : ℕ) (cache : Cache) → FindsRuns asked read lists (Some runs)
      → Keeps (runs_left asked (texts_of read.first) (map run_read runs) (reached last cache) []) (sized_left asked (lists_piece read.first.places) (reached last cache) (with_lists asked read) lists)
  lists_read read lists runs last cache (long, are, have) =
      keeps_on _ _ _
      (keeps_on _ _ _ (keeps_true (list_all (λ run. has_bytes run.piece) (map run_read runs)) _ _ have)
      (sections_on read.first.places.toc read.first.places.size (reached last cache) (tables_in read lists) runs are))
      (keeps_sized asked (lists_piece read.first.places) (reached last cache) (with_lists asked read) lists long)

  pub lists_refused : (read : TablesRead) (lists : List ℕ) (last : ℕ) (cache : Cache) → FindsRuns asked read lists None
      → Keeps (whole_left asked cache) (sized_left asked (lists_piece read.first.places) (reached last cache) (with_lists asked read) lists)
  lists_refused read lists last cache (inl unlike) = keeps_unsized asked (lists_piece read.first.places) (reached last cache) (with_lists asked read) lists unlike
  lists_refused read lists last cache (inr (inl refused)) =
      either (length lists == (lists_piece read.first.places).len) _ _ (selects_refused (tables_in read lists) (whole_left asked cache) _ refused)
  lists_refused read lists last cache (inr (inr (runs, are, have))) =
      either (length lists == (lists_piece read.first.places).len) _ _
      (keeps_on (whole_left asked cache) _ _ (keeps_false (list_all (λ run. has_bytes run.piece) (map run_read runs)) _ (whole_left asked cache) have)
      (sections_on read.first.places.toc read.first.places.size (reached last cache) (tables_in read lists) runs are))

  -- ---- runs

  pub run_read_on : (symbols : List (List ℕ)) (run : Run) (runs : List Run) (bytes : List ℕ) (series all : List IndexSeries) (at : Reached) → TakesRun symbols run bytes series (Some all)
      → Keeps (runs_left asked symbols runs at all) (sized_left asked run.piece at (with_run asked symbols run runs series) bytes)
  run_read_on symbols run runs bytes series all at (long, more, read, are) =
      subst (λ a. Keeps (runs_left asked symbols runs at a) (sized_left asked run.piece at (with_run asked symbols run runs series) bytes)) (sym are)
      (keeps_on _ _ _ (keeps_read (each_at (numbered_at (known (part_at run.piece bytes)) symbols) run.numbers) more _ _ read)
      (keeps_sized asked run.piece at (with_run asked symbols run runs series) bytes long))

  pub run_refused : (symbols : List (List ℕ)) (run : Run) (runs : List Run) (bytes : List ℕ) (series : List IndexSeries) (at : Reached) → TakesRun symbols run bytes series None
      → Keeps (whole_left asked at.cache) (sized_left asked run.piece at (with_run asked symbols run runs series) bytes)
  run_refused symbols run runs bytes series at (inl unlike) = keeps_unsized asked run.piece at (with_run asked symbols run runs series) bytes unlike
  run_refused symbols run runs bytes series at (inr refused) =
      either (length bytes == run.piece.len) _ _ (keeps_refused (each_at (numbered_at (known (part_at run.piece bytes)) symbols) run.numbers) _ _ refused)

  -- ---- the whole index

  pub whole_read : (cache : Cache) (seq : ℕ) (bytes : List ℕ) (series : List IndexSeries) → FindsSeries Q B bytes (Some series)
      → Keeps (chunks_left asked (reached seq cache) series) (after_whole breaks_off Q B cache Next seq bytes)
  whole_read cache seq bytes series (opened, is, all, are, lists, numbers, taken, each) =
      reads_on (opened_at bytes) opened _ _ (chunks_left asked (reached seq cache) series) is
      (keeps_on (chunks_left asked (reached seq cache) series) _ _ (keeps_read (each_at (numbered_at bytes opened.symbols) numbers) series _ _ each)
      (selects_on (tables_of opened) (ends (breaks_off (damaged seq) cache)) (λ all numbers. if_read (each_at (numbered_at bytes opened.symbols) numbers) (Next (reached seq cache)) (ends (breaks_off (damaged seq) cache))) all numbers are lists taken))

  pub whole_refused : (cache : Cache) (seq : ℕ) (bytes : List ℕ) → FindsSeries Q B bytes None
      → Keeps (ends (breaks_off (damaged seq) cache)) (after_whole breaks_off Q B cache Next seq bytes)
  whole_refused cache seq bytes (inl refused) = keeps_refused (opened_at bytes) _ _ refused
  whole_refused cache seq bytes (inr (inl (opened, is, refused))) =
      reads_on (opened_at bytes) opened _ _ (ends (breaks_off (damaged seq) cache)) is
      (selects_refused (tables_of opened) (ends (breaks_off (damaged seq) cache)) (λ all numbers. if_read (each_at (numbered_at bytes opened.symbols) numbers) (Next (reached seq cache)) (ends (breaks_off (damaged seq) cache))) refused)
  whole_refused cache seq bytes (inr (inr (opened, is, all, are, lists, numbers, taken, each))) =
      reads_on (opened_at bytes) opened _ _ (ends (breaks_off (damaged seq) cache)) is
      (keeps_on (ends (breaks_off (damaged seq) cache)) _ _ (keeps_refused (each_at (numbered_at bytes opened.symbols) numbers) (Next (reached seq cache)) (ends (breaks_off (damaged seq) cache)) each)
      (selects_on (tables_of opened) (ends (breaks_off (damaged seq) cache)) (λ all numbers. if_read (each_at (numbered_at bytes opened.symbols) numbers) (Next (reached seq cache)) (ends (breaks_off (damaged seq) cache))) all numbers are lists taken))
