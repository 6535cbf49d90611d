-- What holds of the reads of a block wherever it holds of each read of an object, and of the plans that follow it.
use Rattle.std.proofs.Common.{◌≡◌, ℕ, ◌*◌, ◌≤◌, Bool, true, false, List, [], ◌∷◌, ◌++◌, length, map, drop, zip, refl, sym, ap, subst, ◌∙◌, inl, inr, append_assoc, append-nil, Option, Some, None, Result, Ok, Err, slice_get, ◌==◌, arith}
use Rattle.std.specs.Prelude.{IsErr, nat_le}
use Rattle.std.specs.List.{AllByRecursion, AllZip, flat_map}
use Rattle.std.specs.List.Sorted.{IsStrictlyIncreasing}
use Rattle.std.specs.Map.{lookup}
use Rattle.base.proofs.Membership.{all_members}
use Rattle.base.proofs.Lists.{AllByRecursion-push}
use Rattle.base.proofs.Pairs.{AllZip-weaker_where, AllZip-append}
use Rattle.std.proofs.lemmas.Bool.{eqb-true}
use Rattle.std.proofs.lemmas.List.{map-append}
use Rattle.block_keys.specs.declared.key.Key.{Key}
use Rattle.block_keys.specs.declared.key.Key.TheVariants.{Index, Segment}
use Rattle.label_sets.specs.Triples.{Triple}
use Rattle.label_sets.specs.declared.sample.Sample.{Sample}
use Rattle.world_core.specs.Plans.{IsAtMostOne, Plan, ends, never, asks, finds, after_get, choose}
use Rattle.world_core.specs.declared.op.Op.{Op}
use Rattle.world_core.specs.declared.op.Op.TheVariants.{Get, GetRange}
use Rattle.world_core.specs.declared.reply.Reply.{Reply}
use Rattle.world_core.specs.declared.reply.Reply.TheVariants.{Clocked, Stored, Found, Absent, Deleted, Names, Failed}
use Rattle.world_core.specs.declared.entry.Entry.{Entry}
use Rattle.store_ranges.specs.declared.range.Range.{Range}
use Rattle.store_ranges.specs.Caches.{same_range}
use Rattle.index_parts.specs.ContentsReading.{toc_at}
use Rattle.index_parts.specs.SymbolsReading.{symbols_at}
use Rattle.index_parts.specs.RowsReading.{postings_table_at}
use Rattle.index_parts.specs.SeriesEntry.{reference_of}
use Rattle.index_parts.specs.declared.postings_row.PostingsRow.{PostingsRow}
use Rattle.index_parts.specs.declared.toc_reading.Toc.{Toc}
use Rattle.index_parts.specs.Parts.{known}
use Rattle.index_parts.specs.declared.index_series.IndexSeries.{IndexSeries}
use Rattle.index_parts.specs.IndexFile.{least_size}
use Rattle.index_v2.specs.Opening.{opened_at}
use Rattle.index_v2.specs.PostingsLists.{list_of}
use Rattle.index_v2.specs.SeriesLabels.{numbered_at}
use Rattle.index_v2.specs.WholeReading.{lists_at}
use Rattle.series_selection.specs.Selections.{rows_read}
use Rattle.base.specs.Firsts.{each_at}
use Rattle.store_ranges.specs.ChunkRanges.{AreGroups, IsNear, IsSetOf, group_of, group_piece, offset_of, segment_of}
use Rattle.store_chunks.specs.ChunkReads.{Glimpse, Read, Tests, glimpse_at, have_keys, read, reads_chunks, reads_group, reads_groups, reads_out, reads_references, shows, sticks_out, tests_at}
use Rattle.store_ranges.specs.IndexRanges.{AreRuns, Follows, Piece, Run, contents_piece, has_bytes, has_sections, run_of, section_piece}
use Rattle.store_ranges.specs.IndexReads.{Goes, IsTakenBy, Tables, after_contents, after_lists, after_run, after_runs, after_symbols, after_table, after_whole, by_size, falls_back, have_bytes, part_at, reached, reads_contents, reads_runs, reads_sections, reads_whole, selects, tables_of}
use Rattle.store_ranges.specs.OneCut.{one_cut}
use Rattle.store_ranges.specs.OneSet.{one_selection, one_set}
use Rattle.store_ranges.specs.Stretches.{Stretch, members}
use Rattle.store_chunks.specs.Taken.{shown, taken}
use Rattle.store_calls.specs.BlockReads.{reads_block}
use Rattle.store_ranges.specs.Reads.{Block, Break, Cache, Query, Reached, by_cache, damaged, fault, if_read, kept, missing, range_of, reads, sized, takes, used}
use Rattle.store_calls.proofs.BlockFindings.{AreChunksRead, AreSeries, AreTables, AreTaken, IsChunkRead, IsFull, IsReadFull, IsSeriesRead, IsSoughtOf, IsSpoilt, IsWithin, LackLists, LacksChunks, SticksOut, no_chunk, no_index, no_key, no_list, no_series}
use Rattle.store_calls.proofs.ReadLists.{each_read, hold_runs, lists_some, near_groups, none_behind, numbers_of, ok_read, shown_is, sought_groups, symbols_some, table_some}

-- `Fine` holds of the cache as it is, `Given` of the entries, and `Asks` of what is asked for. `Known` holds of the bytes of a range that
-- was read or kept, and `Whole` of those of an object that was read.
module _ {E : Type 0} (breaks : Break → Cache → E) (Holds : List Entry → Plan E → Type 0) (Asks : Op → Type 0) (Given : Entry → Type 0) (Fine : Cache → Type 0)
    (Known : Key → Piece → List ℕ → Type 0) (Whole : Key → List ℕ → Type 0)
    (read_holds : (made : List Entry) (op : Op) (cache : Cache) (next : ℕ → List ℕ → Plan E) → Asks op → Fine cache
    → ((e : Entry) (bytes : List ℕ) → e.op ≡ op → Given e → e.reply ≡ Found bytes → Holds (made ++ e ∷ []) (next e.seq bytes)) → Holds made (reads breaks op cache next))
    (found : (A : Type 0) (made : List Entry) (Such : A → Type 0) (one : IsAtMostOne Such) (next : A → Plan E) → ((a : A) → Such a → Holds made (next a)) → Holds made (finds Such one next))
    (uses : (range : Range) (cache : Cache) → Fine cache → Fine (used range cache))
    (keeps : (e : Entry) (key : Key) (piece : Piece) (bytes : List ℕ) (cache : Cache) → e.op ≡ GetRange key piece.from piece.len → Given e → e.reply ≡ Found bytes
    → lookup (same_range (range_of key piece)) cache.entries ≡ None → Fine cache → Fine (kept (range_of key piece) bytes cache))
    (known_read : (e : Entry) (key : Key) (piece : Piece) (bytes : List ℕ) → e.op ≡ GetRange key piece.from piece.len → Given e → e.reply ≡ Found bytes → Known key piece bytes)
    (known_kept : (key : Key) (piece : Piece) (bytes : List ℕ) (cache : Cache) → Fine cache → lookup (same_range (range_of key piece)) cache.entries ≡ Some bytes → Known key piece bytes)
    (whole_read : (e : Entry) (key : Key) (bytes : List ℕ) → e.op ≡ Get key → Given e → e.reply ≡ Found bytes → Whole key bytes) where
  either : (made : List Entry) (b : Bool) (one other : Plan E) → (b ≡ true → Holds made one) → (b ≡ false → Holds made other) → Holds made (choose b one other)
  either made true one other first second = first refl
  either made false one other first second = second refl

  if_holds : {A R : Type 0} (made : List Entry) (r : Result A R) (next : A → Plan E) (refused : Plan E) → ((a : A) → r ≡ Ok a → Holds made (next a)) → (IsErr r → Holds made refused) → Holds made (if_read r next refused)
  if_holds made (Ok value) next refused on off = on value refl
  if_holds made (Err refusal) next refused on off = off refl

  abbrev AfterAll : (Reached → Plan E) → Type 0
  AfterAll next = (made : List Entry) (so : Reached) → Fine so.cache → Holds made (next so)

  abbrev Full : Key → Piece → List ℕ → Type 0
  Full = IsFull Known Whole

  -- what follows the bytes of a range, which are as many as were asked for
  abbrev AfterBytes : Key → Piece → (Reached → List ℕ → Plan E) → Type 0
  AfterBytes key piece next = (made : List Entry) (so : Reached) (bytes : List ℕ) → Full key piece bytes → Fine so.cache → Holds made (next so bytes)

  takes_hold : (key : Key) (piece : Piece) (at : Reached) (otherwise : Reached → Plan E) (next : Reached → List ℕ → Plan E) → Asks (GetRange key piece.from piece.len)
      → has_bytes piece ≡ true → AfterAll otherwise → AfterBytes key piece next → (made : List Entry) → Fine at.cache → Holds made (takes breaks key piece at otherwise next)
  takes_hold key piece at otherwise next is some off on made fine = by_held (lookup (same_range (range_of key piece)) at.cache.entries) refl
    where
      fits : (made : List Entry) (so : Reached) (bytes : List ℕ) → Known key piece bytes → Fine so.cache → Holds made (sized piece otherwise next so bytes)
      fits made so bytes is fine =
          either made (length bytes == piece.len) (next so bytes) (otherwise so)
          (λ same. on made so bytes (record { known_so = is; size = eqb-true (length bytes) piece.len same; some = some }) fine) (λ other. off made so fine)

      by_held : (o : Option (List ℕ)) → lookup (same_range (range_of key piece)) at.cache.entries ≡ o → Holds made (by_cache breaks o key piece at (sized piece otherwise next))
      by_held (Some bytes) so =
          fits made (record { last = at.last; cache = used (range_of key piece) at.cache }) bytes (known_kept key piece bytes at.cache fine so) (uses (range_of key piece) at.cache fine)
      by_held None none =
          read_holds made (GetRange key piece.from piece.len) at.cache
          (λ seq bytes. sized piece otherwise next (record { last = seq; cache = kept (range_of key piece) bytes at.cache }) bytes) is fine
          (λ e bytes same given so. fits (made ++ e ∷ []) (record { last = e.seq; cache = kept (range_of key piece) bytes at.cache }) bytes (known_read e key piece bytes same given so)
          (keeps e key piece bytes at.cache same given so none fine))

  -- ---- the index

  module _ (query : Query) (block : Block) (whole : Asks (Get (Index block.ulid))) (ranges : (from len : ℕ) → Asks (GetRange (Index block.ulid) from len))
      (spoilt : (made : List Entry) (number : ℕ) (cache : Cache) → IsSpoilt Known Whole query block → Fine cache → Holds made (ends (breaks (damaged number) cache))) where
    abbrev Series : List IndexSeries → Type 0
    Series series = AreSeries Known Whole query block series

    abbrev AfterSeries : Goes breaks query block → Type 0
    AfterSeries next = (made : List Entry) (at : Reached) (series : List IndexSeries) → Series series → Fine at.cache → Holds made (next at series)

    selects_holds : (made : List Entry) (tables : Tables) (refused : Plan E) (next : List ℕ → List ℕ → Plan E) → (LackLists query block tables → Holds made refused)
        → ((all numbers : List ℕ) → AreTaken Known Whole query block tables numbers → Holds made (next all numbers)) → Holds made (selects breaks query block tables refused next)
    selects_holds made tables refused next off on =
        if_holds made (list_of tables.lists (slice_get tables.rows 0)) _ refused
        (λ all all_are. if_holds made (lists_at tables.lists (rows_read block.external tables.rows query.selector)) _ refused
        (λ lists lists_are. found _ made (IsTakenBy query block tables) (one_selection _ tables.rows block.external query.selector) (next all)
        (λ numbers is. on all numbers (record { lists_read = ok_read _ lists lists_are; taken = is }))) (λ err. off (inr err))) (λ err. off (inl err))

    whole_holds : (next : Goes breaks query block) → AfterSeries next → (made : List Entry) (cache : Cache) → Fine cache → Holds made (reads_whole breaks query block next cache)
    whole_holds next on made cache fine =
        read_holds made (Get (Index block.ulid)) cache (after_whole breaks query block cache next) whole fine
        (λ e bytes same given so. after (made ++ e ∷ []) e.seq bytes (whole_read e (Index block.ulid) bytes same given so))
      where
        after : (made : List Entry) (seq : ℕ) (bytes : List ℕ) → Whole (Index block.ulid) bytes → Holds made (after_whole breaks query block cache next seq bytes)
        after made seq bytes shown =
            if_holds made (opened_at bytes) _ (ends (breaks (damaged seq) cache))
            (λ opened opened_is. selects_holds made (tables_of opened) (ends (breaks (damaged seq) cache)) _
            (λ lack. spoilt made seq cache (no_list bytes opened shown opened_is lack) fine)
            (λ all numbers taken. if_holds made (each_at (numbered_at bytes opened.symbols) numbers) (next (reached seq cache)) (ends (breaks (damaged seq) cache))
            (λ series read_so. on made (reached seq cache) series
            (inl (record {
              bytes = bytes;
              whole_so = shown;
              opened = opened;
              opened_is = opened_is;
              numbers = numbers;
              taken = taken;
              read_so = each_read (numbered_at bytes opened.symbols) numbers series read_so;
            })) fine) (λ err. spoilt made seq cache (no_series bytes opened numbers shown opened_is taken err) fine)))
            (λ err. spoilt made seq cache (no_index bytes shown err) fine)

    falls_hold : (next : Goes breaks query block) → AfterSeries next → AfterAll (falls_back breaks query block next)
    falls_hold next on made at fine = whole_holds next on made at.cache fine

    abbrev ReadSo : List (List ℕ) → ℕ → IndexSeries → Type 0
    ReadSo symbols = IsSeriesRead Known Whole query block symbols

    -- each run has bytes, and begins no later than its series
    abbrev HoldsRun : Run → Type 0
    HoldsRun run = (has_bytes run.piece ≡ true) × AllByRecursion (λ number. run.piece.from ≤ 16 * number) run.numbers

    -- what completes the series of the runs that are left makes the series that the selector takes
    abbrev Completes : List (List ℕ) → List Run → List IndexSeries → Type 0
    Completes symbols runs series = (rest : List IndexSeries) → AllZip (ReadSo symbols) (flat_map (λ (run : Run). run.numbers) runs) rest → Series (series ++ rest)

    runs_hold : (symbols : List (List ℕ)) (next : Goes breaks query block) → AfterSeries next → (runs : List Run) (made : List Entry) (at : Reached) (series : List IndexSeries)
        → AllByRecursion HoldsRun runs → Completes symbols runs series → Fine at.cache → Holds made (reads_runs breaks query block symbols next runs at series)
    runs_hold symbols next on [] made at series hold so fine = on made at series (subst Series (append-nil series) (so [] tt)) fine
    runs_hold symbols next on (run ∷ runs) made at series hold so fine =
        takes_hold (Index block.ulid) run.piece at (falls_back breaks query block next) (after_run breaks query block symbols next run (reads_runs breaks query block symbols next runs) series)
        (ranges run.piece.from run.piece.len) hold.0.0 (falls_hold next on)
        (λ made reach bytes full fine. if_holds made (each_at (numbered_at (known (part_at run.piece bytes)) symbols) run.numbers) _ (falls_back breaks query block next reach)
        (λ more read_so. runs_hold symbols next on runs made reach (series ++ more) hold.1
        (λ rest later. subst Series (sym (append_assoc series more rest))
        (so (more ++ rest) (AllZip-append (ReadSo symbols) run.numbers (flat_map (λ (r : Run). r.numbers) runs) more rest
        (AllZip-weaker_where (λ number. run.piece.from ≤ 16 * number) (λ number one. numbered_at (known (part_at run.piece bytes)) symbols number ≡ Ok one) (ReadSo symbols)
        (λ number one begins reads_as. record { piece = run.piece; begins = begins; read_so = record { bytes = bytes; full = full; reads_as = reads_as } })
        run.numbers more hold.0.1 (each_read (numbered_at (known (part_at run.piece bytes)) symbols) run.numbers more read_so)) later))) fine)
        (λ err. falls_hold next on made reach fine)) made fine

    lists_hold : (size : ℕ) (toc : Toc) (next : Goes breaks query block) → AfterSeries next → (symbols : List (List ℕ)) (rows : List PostingsRow) → AreTables Known Whole query block size toc symbols rows
        → AfterBytes (Index block.ulid) (section_piece toc size toc.postings) (after_lists breaks query block size toc next symbols rows)
    lists_hold size toc next on symbols rows are made at bytes full fine =
        selects_holds made tables (falls_back breaks query block next at) _ (λ lack. falls_hold next on made at fine)
        (λ all numbers taken. found _ made (AreRuns all numbers) (one_cut (Follows all) numbers) (λ runs. after_runs breaks query block next at symbols (map (run_of toc size all) runs))
        (λ runs cut. either made (have_bytes breaks query block (map (run_of toc size all) runs)) (reads_runs breaks query block symbols next (map (run_of toc size all) runs) at [])
        (falls_back breaks query block next at)
        (λ have. runs_hold symbols next on (map (run_of toc size all) runs) made at [] (hold_runs toc size all numbers runs taken.taken.ascend cut have)
        (λ rest reads. inr (record {
          size = size;
          toc = toc;
          symbols = symbols;
          rows = rows;
          tables = are;
          lists = bytes;
          lists_full = full;
          numbers = numbers;
          taken = taken;
          read_so = subst (λ l. AllZip (ReadSo symbols) l rest) (numbers_of toc size all runs ∙ cut.whole) reads;
        })) fine) (λ none. falls_hold next on made at fine)))
      where
        tables : Tables
        tables = record { symbols = symbols; rows = rows; lists = part_at (section_piece toc size toc.postings) bytes }

    table_holds : (size : ℕ) (toc : Toc) (next : Goes breaks query block) → AfterSeries next → has_sections toc size ≡ true → (symbols : List (List ℕ)) → ((rows : List PostingsRow)
        → IsReadFull Known Whole (Index block.ulid) (section_piece toc size toc.postings_table)
        (λ bytes. postings_table_at (known (part_at (section_piece toc size toc.postings_table) bytes)) toc.postings_table) rows
        → AreTables Known Whole query block size toc symbols rows)
        → AfterBytes (Index block.ulid) (section_piece toc size toc.postings_table) (after_table breaks query block size toc next symbols)
    table_holds size toc next on has symbols are made at bytes full fine =
        if_holds made (postings_table_at (known (part_at (section_piece toc size toc.postings_table) bytes)) toc.postings_table) _ (falls_back breaks query block next at)
        (λ rows reads_as. takes_hold (Index block.ulid) (section_piece toc size toc.postings) at (falls_back breaks query block next) (after_lists breaks query block size toc next symbols rows)
        (ranges _ _) (lists_some toc size has) (falls_hold next on)
        (lists_hold size toc next on symbols rows (are rows (record { bytes = bytes; full = full; reads_as = reads_as }))) made fine) (λ err. falls_hold next on made at fine)

    symbols_hold : (size : ℕ) (toc : Toc) (next : Goes breaks query block) → AfterSeries next → block.index_size ≡ Some size
        → IsReadFull Known Whole (Index block.ulid) (contents_piece size) toc_at toc → has_sections toc size ≡ true
        → AfterBytes (Index block.ulid) (section_piece toc size toc.symbols) (after_symbols breaks query block size toc next)
    symbols_hold size toc next on told contents has made at bytes full fine =
        if_holds made (symbols_at (known (part_at (section_piece toc size toc.symbols) bytes)) toc.symbols) _ (falls_back breaks query block next at)
        (λ symbols reads_as. takes_hold (Index block.ulid) (section_piece toc size toc.postings_table) at (falls_back breaks query block next) (after_table breaks query block size toc next symbols)
        (ranges _ _) (table_some toc size has) (falls_hold next on)
        (table_holds size toc next on has symbols
        (λ rows found_so. record { told = told; contents = contents; has = has; symbols_read = record { bytes = bytes; full = full; reads_as = reads_as }; rows_found = found_so })) made fine)
        (λ err. falls_hold next on made at fine)

    contents_hold : (size : ℕ) (next : Goes breaks query block) → AfterSeries next → block.index_size ≡ Some size → (made : List Entry) (cache : Cache) → Fine cache
        → Holds made (reads_contents breaks query block size next cache)
    contents_hold size next on told made cache fine =
        read_holds made (GetRange (Index block.ulid) (contents_piece size).from (contents_piece size).len) cache (after_contents breaks query block size next cache) (ranges _ _) fine
        (λ e bytes same given so. after (made ++ e ∷ []) e.seq bytes (known_read e (Index block.ulid) (contents_piece size) bytes same given so))
      where
        after : (made : List Entry) (seq : ℕ) (bytes : List ℕ) → Known (Index block.ulid) (contents_piece size) bytes → Holds made (after_contents breaks query block size next cache seq bytes)
        after made seq bytes is =
            either made (length bytes == 52) _ (reads_whole breaks query block next cache)
            (λ long. if_holds made (toc_at bytes) _ (reads_whole breaks query block next cache)
            (λ toc reads_as. either made (has_sections toc size) (reads_sections breaks query block size toc next (reached seq cache)) (reads_whole breaks query block next cache)
            (λ has. takes_hold (Index block.ulid) (section_piece toc size toc.symbols) (reached seq cache) (falls_back breaks query block next) (after_symbols breaks query block size toc next)
            (ranges _ _) (symbols_some toc size has) (falls_hold next on)
            (symbols_hold size toc next on told
            (record { bytes = bytes; full = record { known_so = is; size = eqb-true (length bytes) 52 long; some = refl }; reads_as = reads_as }) has) made fine)
            (λ none. whole_holds next on made cache fine))
            (λ err. whole_holds next on made cache fine))
            (λ other. whole_holds next on made cache fine)

    by_size_holds : (size : Option ℕ) (next : Goes breaks query block) → AfterSeries next → block.index_size ≡ size → (made : List Entry) (cache : Cache) → Fine cache
        → Holds made (by_size breaks query block size next cache)
    by_size_holds None next on told made cache fine = whole_holds next on made cache fine
    by_size_holds (Some size) next on told made cache fine =
        either made (nat_le least_size size) (reads_contents breaks query block size next cache) (reads_whole breaks query block next cache)
        (λ long. contents_hold size next on told made cache fine) (λ short. whole_holds next on made cache fine)

  -- ---- chunks

  -- `IsSought` holds of the references whose chunks are read.
  module _ (ulid : ℕ) (tests : Tests) (cache : Cache) (fine : Fine cache) (IsSought : ℕ → Type 0)
      (ranges : (reference from len : ℕ) → IsSought reference → Asks (GetRange (Segment ulid (segment_of reference)) from len))
      (no_chunks : (made : List Entry) (number : ℕ) (stretch : Stretch ℕ) → LacksChunks Known Whole ulid tests IsSought stretch → Holds made (ends (breaks (damaged number) cache))) where
    abbrev AreRead : List Read → Type 0
    AreRead all = AreChunksRead Known Whole ulid tests all

    -- what follows the chunks of these references
    abbrev AfterReads : (List Read → Plan E) → List ℕ → Type 0
    AfterReads next done = (made : List Entry) (all : List Read) → AreRead all → map (λ (one : Read). one.reference) all ≡ done → Holds made (next all)

    -- a chunk of a group is read, or the group's read shows how far it goes
    abbrev Fits : Stretch ℕ → ℕ × Glimpse → Type 0
    Fits stretch (reference, shows samples) = IsChunkRead Known Whole ulid tests (read reference samples)
    Fits stretch (reference, sticks_out len) = SticksOut Known Whole ulid tests IsSought stretch reference len

    out_holds : (stretch : Stretch ℕ) (next : List Read → Plan E) (chunks : List (ℕ × Glimpse)) (done : List ℕ) → AllByRecursion (Fits stretch) chunks
        → AfterReads next (done ++ map (λ (chunk : ℕ × Glimpse). chunk.0) chunks) → AfterReads (reads_out breaks ulid tests cache (group_of stretch) next chunks) done
    out_holds stretch next [] done fit on made all are same = on made all are (same ∙ sym (append-nil done))
    out_holds stretch next ((reference, shows samples) ∷ chunks) done fit on made all are same =
        out_holds stretch next chunks (done ++ reference ∷ []) fit.1
        (subst (AfterReads next) (sym (append_assoc done (reference ∷ []) (map (λ (chunk : ℕ × Glimpse). chunk.0) chunks))) on)
        made (all ++ read reference samples ∷ []) (AllByRecursion-push (IsChunkRead Known Whole ulid tests) all (read reference samples) are fit.0)
        (map-append (λ (one : Read). one.reference) all (read reference samples ∷ []) ∙ ap (λ l. l ++ reference ∷ []) same)
    out_holds stretch next ((reference, sticks_out len) ∷ chunks) done fit on made all are same =
        read_holds made (GetRange (Segment ulid (segment_of stretch.first)) (offset_of reference) len) cache _
        (subst (λ n. Asks (GetRange (Segment ulid n) (offset_of reference) len)) (sym fit.0.same_segment) (ranges reference (offset_of reference) len fit.0.sought)) fine
        (λ e bytes is_op given so. if_holds (made ++ e ∷ []) (tests reference bytes) _ (ends (breaks (damaged e.seq) cache))
        (λ samples reads_as. out_holds stretch next chunks (done ++ reference ∷ []) fit.1
        (subst (AfterReads next) (sym (append_assoc done (reference ∷ []) (map (λ (chunk : ℕ × Glimpse). chunk.0) chunks))) on)
        (made ++ e ∷ []) (all ++ read reference samples ∷ [])
        (AllByRecursion-push (IsChunkRead Known Whole ulid tests) all (read reference samples) are
        (alone reference len samples bytes (there reference len fit.0 e bytes is_op given so) reads_as))
        (map-append (λ (one : Read). one.reference) all (read reference samples ∷ []) ∙ ap (λ l. l ++ reference ∷ []) same))
        (λ err. no_chunks (made ++ e ∷ []) e.seq stretch (inr (reference, len, fit.0, bytes, there reference len fit.0 e bytes is_op given so, err))))
      where
        there : (reference len : ℕ) → SticksOut Known Whole ulid tests IsSought stretch reference len → (e : Entry) (bytes : List ℕ)
            → e.op ≡ GetRange (Segment ulid (segment_of stretch.first)) (offset_of reference) len → Given e → e.reply ≡ Found bytes
            → Known (Segment ulid (segment_of reference)) (record { from = offset_of reference; len = len }) bytes
        there reference len out e bytes is_op given so =
            subst (λ n. Known (Segment ulid n) (record { from = offset_of reference; len = len }) bytes) out.same_segment
            (known_read e (Segment ulid (segment_of stretch.first)) (record { from = offset_of reference; len = len }) bytes is_op given so)

        alone : (reference len : ℕ) (samples : List Sample) (bytes : List ℕ) → Known (Segment ulid (segment_of reference)) (record { from = offset_of reference; len = len }) bytes
            → tests reference bytes ≡ Ok samples → IsChunkRead Known Whole ulid tests (read reference samples)
        alone reference len samples bytes is reads_as = record {
          piece = record { from = offset_of reference; len = len };
          first = reference;
          same_segment = refl;
          behind = omega arith;
          from = refl;
          read_so = record { bytes = bytes; known_so = is; reads_as = subst (λ n. tests reference (drop n bytes) ≡ Ok samples) (sym (none_behind reference)) reads_as };
        }

    -- a group of references that are sought, of which each stands in the segment of the first, and between the first and the last
    abbrev IsOfGroup : Stretch ℕ → ℕ → Type 0
    IsOfGroup stretch reference = IsWithin stretch reference × IsSought reference

    abbrev IsGroup : Stretch ℕ → Type 0
    IsGroup stretch = AllByRecursion (IsOfGroup stretch) (members stretch)

    fits_read : (stretch : Stretch ℕ) (bytes : List ℕ) → Known (Segment ulid (segment_of stretch.first)) (group_piece stretch) bytes → (references : List ℕ) (glimpses : List Glimpse)
        → AllByRecursion (IsOfGroup stretch) references
        → AllZip (λ reference seen. glimpse_at tests (group_of stretch) bytes reference ≡ Ok seen) references glimpses
        → AllByRecursion (Fits stretch) (zip references glimpses) × (map (λ (chunk : ℕ × Glimpse). chunk.0) (zip references glimpses) ≡ references)
    fits_read stretch bytes is [] [] near seen = (tt, refl)
    fits_read stretch bytes is [] (g ∷ glimpses) near seen = absurd seen
    fits_read stretch bytes is (reference ∷ references) [] near seen = absurd seen
    fits_read stretch bytes is (reference ∷ references) (g ∷ glimpses) near seen =
        let later = fits_read stretch bytes is references glimpses near.1 seen.1 in
        ((one g seen.0, later.0), ap (λ l. reference ∷ l) later.1)
      where
        one : (g : Glimpse) → glimpse_at tests (group_of stretch) bytes reference ≡ Ok g → Fits stretch (reference, g)
        one (shows samples) so = record {
          piece = group_piece stretch;
          first = stretch.first;
          same_segment = near.0.0.same_segment;
          behind = near.0.0.behind;
          from = refl;
          read_so = record { bytes = bytes; known_so = is; reads_as = shown_is tests (group_of stretch) bytes reference samples so };
        }
        one (sticks_out len) so = record { same_segment = near.0.0.same_segment; within = near.0.0; sought = near.0.1; bytes = bytes; known_so = is; sees = so }

    group_holds : (stretch : Stretch ℕ) (next : List Read → Plan E) (done : List ℕ) → IsGroup stretch → AfterReads next (done ++ members stretch)
        → AfterReads (reads_group breaks ulid tests cache (group_of stretch) next) done
    group_holds stretch next done near on made all are same =
        read_holds made (GetRange (Segment ulid (segment_of stretch.first)) (group_piece stretch).from (group_piece stretch).len) cache _
        (ranges stretch.first (group_piece stretch).from (group_piece stretch).len near.0.1) fine
        (λ e bytes is_op given so. if_holds (made ++ e ∷ []) (each_at (glimpse_at tests (group_of stretch) bytes) (members stretch)) _ (ends (breaks (damaged e.seq) cache))
        (λ glimpses seen.
        let fit = fits_read stretch bytes (known_read e (Segment ulid (segment_of stretch.first)) (group_piece stretch) bytes is_op given so) (members stretch) glimpses near
        (each_read (glimpse_at tests (group_of stretch) bytes) (members stretch) glimpses seen) in
        out_holds stretch next (zip (members stretch) glimpses) done fit.0 (subst (λ l. AfterReads next (done ++ l)) (sym fit.1) on) (made ++ e ∷ []) all are same)
        (λ err. no_chunks (made ++ e ∷ []) e.seq stretch
        (inl (near, bytes, known_read e (Segment ulid (segment_of stretch.first)) (group_piece stretch) bytes is_op given so, err))))

    groups_hold : (next : List Read → Plan E) (groups : List (Stretch ℕ)) (done : List ℕ) → AllByRecursion IsGroup groups → AfterReads next (done ++ flat_map members groups)
        → AfterReads (reads_groups breaks ulid tests cache next (map group_of groups)) done
    groups_hold next [] done near on made all are same = on made all are (same ∙ sym (append-nil done))
    groups_hold next (stretch ∷ groups) done near on made all are same =
        group_holds stretch (reads_groups breaks ulid tests cache next (map group_of groups)) done near.0
        (groups_hold next groups (done ++ members stretch) near.1 (subst (AfterReads next) (sym (append_assoc done (members stretch) (flat_map members groups))) on)) made all are same

    references_hold : (next : List Read → Plan E) (references : List ℕ) → IsStrictlyIncreasing references → AllByRecursion IsSought references → AfterReads next references → (made : List Entry)
        → Holds made (reads_references breaks ulid tests cache next references)
    references_hold next references rises sought on made =
        found _ made (AreGroups references) (one_cut IsNear references) _
        (λ groups is. groups_hold next groups [] (sought_groups IsSought groups (near_groups references groups rises is) (subst (AllByRecursion IsSought) (sym is.whole) sought))
        (subst (AfterReads next) (sym is.whole) on) made [] tt refl)

  -- ---- the block

  pub walk_holds : (query : Query) (block : Block) → Asks (Get (Index block.ulid)) → ((from len : ℕ) → Asks (GetRange (Index block.ulid) from len))
      → ((series : List IndexSeries) → AreSeries Known Whole query block series → (reference : ℕ) → IsSoughtOf query series reference → (from len : ℕ)
      → Asks (GetRange (Segment block.ulid (segment_of reference)) from len))
      → ((made : List Entry) (number : ℕ) (cache : Cache) → IsSpoilt Known Whole query block → Fine cache → Holds made (ends (breaks (damaged number) cache)))
      → (next : Cache → List Triple → Plan E)
      → ((made : List Entry) (after : Cache) (series : List IndexSeries) (all : List Read) → AreSeries Known Whole query block series
      → AreChunksRead Known Whole block.ulid (tests_at query block (flat_map (taken query) series)) all
      → IsSetOf (map reference_of (flat_map (taken query) series)) (map (λ (one : Read). one.reference) all)
      → Fine after → Holds made (next after (flat_map (shown query block all) series)))
      → (made : List Entry) (cache : Cache) → Fine cache → Holds made (reads_block breaks query block cache next)
  walk_holds query block whole index segments spoilt next on made cache fine =
      by_size_holds query block whole index spoilt block.index_size
      (λ at series. reads_chunks breaks query block (flat_map (taken query) series) at.cache at.last (λ all. next at.cache (flat_map (shown query block all) series)))
      (λ made at series are fine. chunks made at series are fine) refl made cache fine
    where
      chunks : (made : List Entry) (at : Reached) (series : List IndexSeries) → AreSeries Known Whole query block series → Fine at.cache
          → Holds made (reads_chunks breaks query block (flat_map (taken query) series) at.cache at.last (λ all. next at.cache (flat_map (shown query block all) series)))
      chunks made at series are fine =
          either made (have_keys (flat_map (taken query) series)) _ (ends (breaks (damaged at.last) at.cache))
          (λ keys. found _ made (IsSetOf (map reference_of (flat_map (taken query) series))) (one_set (map reference_of (flat_map (taken query) series))) _
          (λ references is. references_hold block.ulid (tests_at query block (flat_map (taken query) series)) at.cache fine (IsSoughtOf query series)
          (λ reference from len sought. segments series are reference sought from len)
          (λ made number stretch lacks. spoilt made number at.cache (no_chunk series stretch are lacks) fine)
          (λ all. next at.cache (flat_map (shown query block all) series)) references is.increasing
          (all_members (IsSoughtOf query series) references (λ reference has. (is.members reference).0 has))
          (λ made all read_so same. on made at.cache series all are read_so (subst (IsSetOf (map reference_of (flat_map (taken query) series))) (sym same) is) fine) made))
          (λ none. spoilt made at.last at.cache (no_key series are none) fine)

-- The same where a read ends what is lost, or what failed, at once.
module _ {E : Type 0} (breaks : Break → Cache → E) (Holds : List Entry → Plan E → Type 0) (Asks : Op → Type 0) (Given : Entry → Type 0) (Fine : Cache → Type 0)
    (Known : Key → Piece → List ℕ → Type 0) (Whole : Key → List ℕ → Type 0)
    (idle : (made : List Entry) → Holds made never)
    (asked : (made : List Entry) (op : Op) (next : Entry → Plan E) → Asks op → ((e : Entry) → e.op ≡ op → Given e → Holds (made ++ e ∷ []) (next e)) → Holds made (asks op next))
    (found : (A : Type 0) (made : List Entry) (Such : A → Type 0) (one : IsAtMostOne Such) (next : A → Plan E) → ((a : A) → Such a → Holds made (next a)) → Holds made (finds Such one next))
    (lost : (made : List Entry) (e : Entry) (op : Op) (cache : Cache) → Asks op → e.op ≡ op → Given e → e.reply ≡ Absent → Fine cache → Holds (made ++ e ∷ []) (ends (breaks (missing e.seq) cache)))
    (failed : (made : List Entry) (e : Entry) (landed : Bool) (cache : Cache) → Given e → e.reply ≡ Failed landed → Fine cache → Holds (made ++ e ∷ []) (ends (breaks (fault e.seq) cache)))
    (uses : (range : Range) (cache : Cache) → Fine cache → Fine (used range cache))
    (keeps : (e : Entry) (key : Key) (piece : Piece) (bytes : List ℕ) (cache : Cache) → e.op ≡ GetRange key piece.from piece.len → Given e → e.reply ≡ Found bytes
    → lookup (same_range (range_of key piece)) cache.entries ≡ None → Fine cache → Fine (kept (range_of key piece) bytes cache))
    (known_read : (e : Entry) (key : Key) (piece : Piece) (bytes : List ℕ) → e.op ≡ GetRange key piece.from piece.len → Given e → e.reply ≡ Found bytes → Known key piece bytes)
    (known_kept : (key : Key) (piece : Piece) (bytes : List ℕ) (cache : Cache) → Fine cache → lookup (same_range (range_of key piece)) cache.entries ≡ Some bytes → Known key piece bytes)
    (whole_read : (e : Entry) (key : Key) (bytes : List ℕ) → e.op ≡ Get key → Given e → e.reply ≡ Found bytes → Whole key bytes) where
  own_reads : (made : List Entry) (op : Op) (cache : Cache) (next : ℕ → List ℕ → Plan E) → Asks op → Fine cache
      → ((e : Entry) (bytes : List ℕ) → e.op ≡ op → Given e → e.reply ≡ Found bytes → Holds (made ++ e ∷ []) (next e.seq bytes)) → Holds made (reads breaks op cache next)
  own_reads made op cache next is fine on =
      asked made op (λ (e : Entry). after_get e.reply (next e.seq) (ends (breaks (missing e.seq) cache)) (ends (breaks (fault e.seq) cache))) is
      (λ e same given. by e same given e.reply refl)
    where
      by : (e : Entry) → e.op ≡ op → Given e → (r : Reply) → e.reply ≡ r
          → Holds (made ++ e ∷ []) (after_get r (next e.seq) (ends (breaks (missing e.seq) cache)) (ends (breaks (fault e.seq) cache)))
      by e same given (Found bytes) so = on e bytes same given so
      by e same given Absent so = lost made e op cache is same given so fine
      by e same given (Failed landed) so = failed made e landed cache given so fine
      by e same given Clocked so = idle (made ++ e ∷ [])
      by e same given Stored so = idle (made ++ e ∷ [])
      by e same given Deleted so = idle (made ++ e ∷ [])
      by e same given (Names names) so = idle (made ++ e ∷ [])

  pub block_holds : (query : Query) (block : Block) → Asks (Get (Index block.ulid)) → ((from len : ℕ) → Asks (GetRange (Index block.ulid) from len))
      → ((series : List IndexSeries) → AreSeries Known Whole query block series → (reference : ℕ) → IsSoughtOf query series reference → (from len : ℕ)
      → Asks (GetRange (Segment block.ulid (segment_of reference)) from len))
      → ((made : List Entry) (number : ℕ) (cache : Cache) → IsSpoilt Known Whole query block → Fine cache → Holds made (ends (breaks (damaged number) cache)))
      → (next : Cache → List Triple → Plan E)
      → ((made : List Entry) (after : Cache) (series : List IndexSeries) (all : List Read) → AreSeries Known Whole query block series
      → AreChunksRead Known Whole block.ulid (tests_at query block (flat_map (taken query) series)) all
      → IsSetOf (map reference_of (flat_map (taken query) series)) (map (λ (one : Read). one.reference) all)
      → Fine after → Holds made (next after (flat_map (shown query block all) series)))
      → (made : List Entry) (cache : Cache) → Fine cache → Holds made (reads_block breaks query block cache next)
  block_holds = walk_holds breaks Holds Asks Given Fine Known Whole own_reads found uses keeps known_read known_kept whole_read
