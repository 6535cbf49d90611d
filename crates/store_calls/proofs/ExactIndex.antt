-- The series that are read of an index are those that the selector takes, in the order of the index.
use Rattle.std.proofs.Common.{◌≡◌, ℕ, zero, suc, ◌+◌, ◌-◌, ◌<◌, Bool, true, false, List, [], ◌∷◌, map, take, drop, length, Option, Some, Result, Ok, refl, sym, ap, subst, ◌∙◌, inl, inr, arith}
use Rattle.std.specs.Prelude.{Contains, IfSome, MatchBool, slice_index, ◌==◌, nat_lt}
use Rattle.std.specs.List.{AllZip, filter}
use Rattle.std.specs.List.Sorted.{IsStrictlyIncreasing}
use Rattle.std.proofs.lemmas.Bool.{ltb-true, ne_eqb}
use Rattle.base.proofs.Lists.{filter_hit, filter_miss}
use Rattle.base.proofs.Membership.{contains_first, contains_later, into_filter, into_map, member_passes, of_filter, of_map}
use Rattle.base.proofs.Pairs.{AllZip-weaker}
use Rattle.base.proofs.Rising.{rest_rises}
use Rattle.base.specs.Grammar.{IsBytes}
use Rattle.base.proofs.Binds.{ok_is}
use Rattle.base.proofs.Fronts.{IsBytes-drop, IsBytes-take}
use Rattle.label_sets.specs.Finals.{final_of}
use Rattle.label_sets.proofs.LabelValues.{by_bool}
use Rattle.matchers.specs.Selectors.{is_match}
use Rattle.matchers.specs.SelectorText.{named_replicas}
use Rattle.wire_bytes.specs.Position.{Position}
use Rattle.index_parts.specs.declared.refusal.PartRefusal.{PartRefusal}
use Rattle.index_parts.specs.declared.postings_row.PostingsRow.{PostingsRow}
use Rattle.index_parts.specs.declared.toc_reading.Toc.{Toc}
use Rattle.index_parts.specs.Lists.{IsList}
use Rattle.index_parts.specs.Postings.{IsPostings}
use Rattle.index_parts.specs.Rows.{IsNextRow, IsPostingsTable}
use Rattle.index_parts.specs.RowsReading.{row_at}
use Rattle.index_parts.specs.Symbols.{IsNextSymbol, IsSymbols}
use Rattle.index_parts.specs.SymbolsReading.{symbol_at}
use Rattle.index_parts.specs.ListReading.{list_at}
use Rattle.index_parts.proofs.ListLaws.{IsTurnOf, list_again}
use Rattle.index_parts.proofs.RowLaws.{row_turn}
use Rattle.index_parts.proofs.SymbolLaws.{symbol_turn}
use Rattle.index_parts.specs.Parts.{IsPartOf, Part, file, known}
use Rattle.index_parts.specs.IndexFile.{AreListed, Holds, IsIndex, IsSeriesOf}
use Rattle.index_parts.specs.Opened.{Opened}
use Rattle.index_parts.specs.declared.index_series.IndexSeries.{IndexSeries}
use Rattle.index_v2.specs.SeriesLabels.{numbered_at}
use Rattle.index_v2.proofs.HeldLaws.{file_is}
use Rattle.index_v2.proofs.LabelLaws.{numbered_found}
use Rattle.index_v2.specs.Opening.{opened_at}
use Rattle.index_v2.specs.declared.refusal.IndexRefusal.{IndexRefusal}
use Rattle.index_v2.proofs.ListNumbers.{none_rise, numbers_rise}
use Rattle.index_v2.proofs.OpeningLaws.{opened_again}
use Rattle.series_selection.specs.Selections.{IsSelection}
use Rattle.index_v2.proofs.Apart.{above_first}
use Rattle.series_selection.proofs.Matching.{first_of, selection_matches}
use Rattle.store_ranges.specs.IndexRanges.{Piece, contents_piece, section_piece}
use Rattle.store_ranges.specs.IndexReads.{part_at, tables_of}
use Rattle.store_ranges.specs.ChunkRanges.{IsSetOf}
use Rattle.store_ranges.specs.OneSet.{one_set}
use Rattle.store_ranges.specs.Reads.{Block, Query}
use Rattle.block_keys.specs.declared.key.Key.{Key}
use Rattle.block_keys.specs.declared.key.Key.TheVariants.{Index}
use Rattle.store_calls.proofs.BlockFindings.{AreOfRanges, AreOfWhole, AreSeries, AreTaken, IsFull, IsSeriesRead}
use Rattle.store_calls.proofs.ExactSelection.{selection_stands}
use Rattle.store_calls.proofs.PartLaws.{is_part, list_in_index, one_series, series_in_index, toc_in_index}
use Rattle.store_calls.proofs.ReadLists.{symbols_there, table_there}

-- ---- sections

-- a section that is read in a part is the opened index's
section_is : {A : Type 0} (IsNext : Option A → List ℕ → A → Type 0) (read : Option A × Position → Result (A × (Option A × Position)) PartRefusal) → IsTurnOf IsNext read
    → (part : Part) (index : List ℕ) (found held : List A) → IsPartOf part index → IsBytes part.bytes → nat_lt 0 part.begin ≡ true → list_at read (known part) part.begin ≡ Ok found
    → Holds (IsList IsNext) index part.begin held → found ≡ held
section_is IsNext read turn part index found held is are some e holds =
    let more : 0 < part.begin = ltb-true 0 part.begin some in
    let apart : (part.begin == 0) ≡ false = ne_eqb part.begin 0 (λ zero. omega (arith, zero, more)) in
    let stands : IsList IsNext index part.begin held = subst (λ b. MatchBool b (held ≡ []) (IsList IsNext index part.begin held)) apart holds in
    let found_so = list_in_index IsNext read turn part index part.begin found is (omega arith) are e in
    ok_is {E = PartRefusal} found held (sym (list_again IsNext read turn index part.begin found found_so) ∙ list_again IsNext read turn index part.begin held stands)

-- ---- lists of numbers

front_rises : (x : ℕ) (xs : List ℕ) → IsStrictlyIncreasing xs → ((y : ℕ) → Contains xs y → x < y) → IsStrictlyIncreasing (x ∷ xs)
front_rises x [] rises above = λ k lt. absurd (omega (arith, lt))
front_rises x (y ∷ ys) rises above = λ k. by_place k
  where
    by_place : (k : ℕ) → k + 1 < length (x ∷ y ∷ ys) → slice_index (x ∷ y ∷ ys) k < slice_index (x ∷ y ∷ ys) (k + 1)
    by_place zero lt = above y (contains_first y ys)
    by_place (suc k) lt = subst (λ n. slice_index (x ∷ y ∷ ys) (suc k) < slice_index (x ∷ y ∷ ys) n) {x = suc (k + 1)} {y = suc k + 1} (omega arith) (rises k (omega (arith, lt)))

-- the numbers of some of these rise, if those of all do
kept_rise : (p : ℕ × IndexSeries → Bool) (listed : List (ℕ × IndexSeries)) → IsStrictlyIncreasing (map first_of listed) → IsStrictlyIncreasing (map first_of (filter p listed))
kept_rise p [] rises = rises
kept_rise p (one ∷ listed) rises = by_bool (p one)
    (λ t. subst (λ l. IsStrictlyIncreasing (map first_of l)) (sym (filter_hit p one listed t))
    (front_rises one.0 (map first_of (filter p listed)) (kept_rise p listed (rest_rises one.0 (map first_of listed) rises))
    (λ y has. let other = of_map first_of (filter p listed) y has in
    subst (λ n. one.0 < n) other.2 (above_first one.0 (map first_of listed) other.0.0 rises (into_map first_of listed other.0 (of_filter p listed other.0 other.1))))))
    (λ f. subst (λ l. IsStrictlyIncreasing (map first_of l)) (sym (filter_miss p one listed f)) (kept_rise p listed (rest_rises one.0 (map first_of listed) rises)))

-- the series of some of these are some of the series
kept_series : (test : IndexSeries → Bool) (listed : List (ℕ × IndexSeries)) → map (λ (one : ℕ × IndexSeries). one.1) (filter (λ one. test one.1) listed) ≡ filter test (map (λ (one : ℕ × IndexSeries). one.1) listed)
kept_series test [] = refl
kept_series test (one ∷ listed) = by_bool (test one.1)
    (λ t. ap (map (λ (x : ℕ × IndexSeries). x.1)) (filter_hit (λ (x : ℕ × IndexSeries). test x.1) one listed t) ∙ ap (λ l. one.1 ∷ l) (kept_series test listed)
    ∙ sym (filter_hit test one.1 (map (λ (x : ℕ × IndexSeries). x.1) listed) t))
    (λ f. ap (map (λ (x : ℕ × IndexSeries). x.1)) (filter_miss (λ (x : ℕ × IndexSeries). test x.1) one listed f) ∙ kept_series test listed
    ∙ sym (filter_miss test one.1 (map (λ (x : ℕ × IndexSeries). x.1) listed) f))

zipped : (index : List ℕ) (symbols : List (List ℕ)) (pairs : List (ℕ × IndexSeries)) (series : List IndexSeries) → ((one : ℕ × IndexSeries) → Contains pairs one → IsSeriesOf index symbols one.0 one.1)
    → AllZip (IsSeriesOf index symbols) (map first_of pairs) series → series ≡ map (λ (one : ℕ × IndexSeries). one.1) pairs
zipped index symbols [] [] stand zip = refl
zipped index symbols [] (s ∷ series) stand zip = absurd zip
zipped index symbols (one ∷ pairs) [] stand zip = absurd zip
zipped index symbols (one ∷ pairs) (s ∷ series) stand zip =
    let here : s ≡ one.1 = one_series index symbols one.0 s one.1 zip.0 (stand one (contains_first one pairs)) in
    let later : series ≡ map (λ (x : ℕ × IndexSeries). x.1) pairs = zipped index symbols pairs series (λ other among. stand other (contains_later one other pairs among)) zip.1 in
    λ i. here i ∷ later i

-- ---- what was read

module _ (query : Query) (block : Block) (index : List ℕ) (indexed : List IndexSeries) (is : IsIndex index indexed) (are : IsBytes is.opened.bytes) where
  abbrev I : List ℕ
  I = is.opened.bytes

  -- The selector takes these series by the lists that stand in the index.
  pub record IsTakenFrom (series : List IndexSeries) : Type 0 where
    pub numbers : List ℕ
    pub selection : IsSelection (λ row listed. IsPostings I row.offset listed) is.opened.rows block.external query.selector numbers
    pub stand : AllZip (IsSeriesOf I is.opened.symbols) numbers series

  abbrev pub matches : IndexSeries → Bool
  matches one = is_match query.selector (final_of one.labels block.external query.replicas)

  numbers_up : (rows : List PostingsRow) (numbers : List ℕ) → AreListed I rows numbers → IsStrictlyIncreasing numbers
  numbers_up [] numbers none = subst IsStrictlyIncreasing (sym none) none_rise
  numbers_up (row ∷ rows) numbers stands = numbers_rise I row.offset numbers stands

  -- they are those whose final labels match
  pub taken_match : named_replicas query.replicas query.selector ≡ [] → (series : List IndexSeries) → IsTakenFrom series → series ≡ filter matches indexed
  taken_match unnamed series taken =
      let found = selection_matches index indexed is block.external query.replicas query.selector taken.numbers unnamed taken.selection in
      let test : ℕ × IndexSeries → Bool = λ one. matches one.1 in
      let kept : List (ℕ × IndexSeries) = filter test is.listed in
      let up : IsStrictlyIncreasing (map first_of is.listed) = numbers_up is.opened.rows (map first_of is.listed) is.series_are.numbers_are in
      let own : IsSetOf taken.numbers taken.numbers = record { increasing = taken.selection.ascend; members = λ x. ((λ c. c), (λ c. c)) } in
      let other : IsSetOf taken.numbers (map first_of kept) = record {
        increasing = kept_rise test is.listed up;
        members = λ x. (
          (λ has. let one = of_map first_of kept x has in
              subst (Contains taken.numbers) one.2 (found.all one.0.0 one.0.1 (of_filter test is.listed one.0 one.1) (member_passes test is.listed one.0 one.1))),
          (λ has. let one = found.only x has in into_map first_of kept (x, one.0) (into_filter test is.listed (x, one.0) one.1 one.2)),
        );
      } in
      let numbers : taken.numbers ≡ map first_of kept = one_set taken.numbers taken.numbers (map first_of kept) own other in
      zipped I is.opened.symbols kept series (λ one among. is.series_are.stand one.0 one.1 (of_filter test is.listed one among))
      (subst (λ l. AllZip (IsSeriesOf I is.opened.symbols) l series) numbers taken.stand)
      ∙ kept_series matches is.listed ∙ ap (filter matches) is.list_is

  -- ---- by the whole index, and by its ranges

  -- `Known` and `Whole` tell that bytes stand in the index
  module _ (Known : Key → Piece → List ℕ → Type 0) (Whole : Key → List ℕ → Type 0)
      (ranges : (piece : Piece) (bytes : List ℕ) → Known (Index block.ulid) piece bytes → take piece.len (drop piece.from I) ≡ bytes)
      (wholes : (bytes : List ℕ) → Whole (Index block.ulid) bytes → bytes ≡ I)
      (sized : IfSome block.index_size (λ size. size ≡ length I)) where
    piece_bytes : (piece : Piece) (bytes : List ℕ) → Known (Index block.ulid) piece bytes → IsBytes bytes
    piece_bytes piece bytes shown = subst IsBytes (ranges piece bytes shown) (IsBytes-take piece.len (drop piece.from I) (IsBytes-drop piece.from I are))

    piece_part : (piece : Piece) (bytes : List ℕ) → IsFull Known Whole (Index block.ulid) piece bytes → IsPartOf (part_at piece bytes) I
    piece_part piece bytes full = is_part I piece.from piece.len bytes (ranges piece bytes full.known_so) full.size (ltb-true 0 piece.len full.some)

    of_whole : (series : List IndexSeries) → AreOfWhole Known Whole query block series → IsTakenFrom series
    of_whole series read =
        let bytes : read.bytes ≡ I = wholes read.bytes read.whole_so in
        let opened : read.opened ≡ is.opened =
        ok_is {E = IndexRefusal} read.opened is.opened (sym read.opened_is ∙ ap opened_at bytes ∙ opened_again I is.opened refl is.is_opened) in
        let taken : AreTaken Known Whole query block (tables_of is.opened) read.numbers = subst (λ (o : Opened). AreTaken Known Whole query block (tables_of o) read.numbers) opened read.taken in
        let reads : AllZip (λ number one. numbered_at I is.opened.symbols number ≡ Ok one) read.numbers series =
        subst (λ (o : Opened). AllZip (λ number one. numbered_at I o.symbols number ≡ Ok one) read.numbers series) opened
        (subst (λ (b : List ℕ). AllZip (λ number one. numbered_at b read.opened.symbols number ≡ Ok one) read.numbers series) bytes read.read_so) in
        record {
          numbers = read.numbers;
          selection = selection_stands (file I) I block.external is.opened.rows query.selector read.numbers (file_is I) are taken.lists_read taken.taken;
          stand = AllZip-weaker (λ number one. numbered_at I is.opened.symbols number ≡ Ok one) (IsSeriesOf I is.opened.symbols)
              (λ number one so. numbered_found I is.opened.symbols number one are so) read.numbers series reads;
        }

    size_is : (size : ℕ) → block.index_size ≡ Some size → size ≡ length I
    size_is size told = subst (λ o. IfSome o (λ n. n ≡ length I)) told sized

    of_ranges : (series : List IndexSeries) → AreOfRanges Known Whole query block series → IsTakenFrom series
    of_ranges series read =
        let tables = read.tables in
        let size : read.size ≡ length I = size_is read.size tables.told in
        let contents = tables.contents in
        let toc : read.toc ≡ is.opened.toc =
        toc_in_index I contents.bytes read.toc is.opened.toc (piece_bytes (contents_piece read.size) contents.bytes contents.full.known_so)
        (subst (λ n. take 52 (drop (n - 52) I) ≡ contents.bytes) size (ranges (contents_piece read.size) contents.bytes contents.full.known_so)) contents.full.size contents.reads_as is.is_opened.toc_is in
        let symbols_part = piece_part (section_piece read.toc read.size read.toc.symbols) tables.symbols_read.bytes tables.symbols_read.full in
        let symbols : read.symbols ≡ is.opened.symbols =
        section_is IsNextSymbol symbol_at symbol_turn (part_at (section_piece read.toc read.size read.toc.symbols) tables.symbols_read.bytes) I read.symbols is.opened.symbols symbols_part
        (piece_bytes (section_piece read.toc read.size read.toc.symbols) tables.symbols_read.bytes tables.symbols_read.full.known_so) (symbols_there read.toc read.size tables.has) tables.symbols_read.reads_as
        (subst (λ (t : Toc). Holds IsSymbols I t.symbols is.opened.symbols) (sym toc) is.is_opened.symbols_are) in
        let rows_part = piece_part (section_piece read.toc read.size read.toc.postings_table) tables.rows_found.bytes tables.rows_found.full in
        let rows : read.rows ≡ is.opened.rows =
        section_is IsNextRow row_at row_turn (part_at (section_piece read.toc read.size read.toc.postings_table) tables.rows_found.bytes) I read.rows is.opened.rows rows_part
        (piece_bytes (section_piece read.toc read.size read.toc.postings_table) tables.rows_found.bytes tables.rows_found.full.known_so) (table_there read.toc read.size tables.has) tables.rows_found.reads_as
        (subst (λ (t : Toc). Holds IsPostingsTable I t.postings_table is.opened.rows) (sym toc) is.is_opened.rows_are) in
        let lists : Part = part_at (section_piece read.toc read.size read.toc.postings) read.lists in
        let selection : IsSelection (λ row listed. IsPostings I row.offset listed) read.rows block.external query.selector read.numbers =
        selection_stands lists I block.external read.rows query.selector read.numbers (piece_part (section_piece read.toc read.size read.toc.postings) read.lists read.lists_full)
        (piece_bytes (section_piece read.toc read.size read.toc.postings) read.lists read.lists_full.known_so) read.taken.lists_read read.taken.taken in
        let stand : AllZip (IsSeriesOf I read.symbols) read.numbers series =
        AllZip-weaker (IsSeriesRead Known Whole query block read.symbols) (IsSeriesOf I read.symbols)
        (λ number one so. series_in_index (part_at so.piece so.read_so.bytes) I read.symbols number one (piece_part so.piece so.read_so.bytes so.read_so.full) so.begins
        (piece_bytes so.piece so.read_so.bytes so.read_so.full.known_so) so.read_so.reads_as) read.numbers series read.read_so in
        record {
          numbers = read.numbers;
          selection = subst (λ (r : List PostingsRow). IsSelection (λ row listed. IsPostings I row.offset listed) r block.external query.selector read.numbers) rows selection;
          stand = subst (λ (s : List (List ℕ)). AllZip (IsSeriesOf I s) read.numbers series) symbols stand;
        }

    pub taken_from : (series : List IndexSeries) → AreSeries Known Whole query block series → IsTakenFrom series
    taken_from series (inl whole) = of_whole series whole
    taken_from series (inr read) = of_ranges series read

    -- the series that were read are those whose final labels match
    pub series_match : named_replicas query.replicas query.selector ≡ [] → (series : List IndexSeries) → AreSeries Known Whole query block series → series ≡ filter matches indexed
    series_match unnamed series are = taken_match unnamed series (taken_from series are)
