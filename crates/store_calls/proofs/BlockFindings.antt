-- What the reads of a block come to, by what was read: the series of its index, and the samples of its chunks.
use Rattle.std.proofs.Common.{◌≡◌, ◌⊎◌, ℕ, ◌-◌, ◌*◌, ◌≤◌, true, false, List, length, map, drop, Some, Result, Ok, slice_get}
use Rattle.std.specs.Prelude.{Contains, IsErr, IsOk}
use Rattle.std.specs.List.{AllByRecursion, AllZip, flat_map}
use Rattle.block_keys.specs.declared.key.Key.{Key}
use Rattle.block_keys.specs.declared.key.Key.TheVariants.{Index, Segment}
use Rattle.index_parts.specs.ContentsReading.{toc_at}
use Rattle.index_parts.specs.SymbolsReading.{symbols_at}
use Rattle.index_parts.specs.RowsReading.{postings_table_at}
use Rattle.index_parts.specs.declared.toc_reading.Toc.{Toc}
use Rattle.index_parts.specs.declared.postings_row.PostingsRow.{PostingsRow}
use Rattle.index_parts.specs.Parts.{known}
use Rattle.index_parts.specs.Opened.{Opened}
use Rattle.index_parts.specs.declared.index_series.IndexSeries.{IndexSeries}
use Rattle.index_v2.specs.Opening.{opened_at}
use Rattle.index_v2.specs.SeriesLabels.{numbered_at}
use Rattle.index_v2.specs.WholeReading.{lists_at}
use Rattle.series_selection.specs.Selections.{rows_read}
use Rattle.base.specs.Firsts.{each_at}
use Rattle.store_chunks.specs.Taken.{taken}
use Rattle.store_ranges.specs.ChunkRanges.{group_of, group_piece, offset_of, segment_of}
use Rattle.store_chunks.specs.ChunkReads.{Read, Tests, glimpse_at, have_keys, sticks_out, tests_at}
use Rattle.store_ranges.specs.Stretches.{Stretch, last_of, members}
use Rattle.index_parts.specs.SeriesEntry.{reference_of}
use Rattle.index_v2.specs.PostingsLists.{list_of}
use Rattle.store_ranges.specs.IndexRanges.{Piece, contents_piece, has_bytes, has_sections, section_piece}
use Rattle.store_ranges.specs.IndexReads.{IsTakenBy, Tables, part_at, tables_of}
use Rattle.store_ranges.specs.Reads.{Block, Query}

-- A reference of a group: in the segment of the first one, and between the first and the last.
pub record IsWithin (stretch : Stretch ℕ) (reference : ℕ) : Type 0 where
  pub same_segment : segment_of stretch.first ≡ segment_of reference
  pub behind : stretch.first ≤ reference
  pub upto : reference ≤ last_of stretch

-- a chunk of these series that meets the range stands at the reference
abbrev pub IsSoughtOf : Query → List IndexSeries → ℕ → Type 0
IsSoughtOf query series reference = Contains (map reference_of (flat_map (taken query) series)) reference

-- a list that the selector needs is not read
abbrev pub LackLists : Query → Block → Tables → Type 0
LackLists query block tables =
    IsErr (list_of tables.lists (slice_get tables.rows 0)) ⊎ IsErr (lists_at tables.lists (rows_read block.external tables.rows query.selector))

-- `Known` holds of the bytes of a range that was read or kept, `Whole` of those of an object that was read.
module _ (Known : Key → Piece → List ℕ → Type 0) (Whole : Key → List ℕ → Type 0) where
  -- bytes are known of a range, of which this is read
  pub record IsReadAt {A R : Type 0} (key : Key) (piece : Piece) (read : List ℕ → Result A R) (value : A) : Type 0 where
    pub bytes : List ℕ
    pub known_so : Known key piece bytes
    pub reads_as : read bytes ≡ Ok value

  -- they are as many as were asked for, of which there are some
  pub record IsFull (key : Key) (piece : Piece) (bytes : List ℕ) : Type 0 where
    pub known_so : Known key piece bytes
    pub size : length bytes ≡ piece.len
    pub some : has_bytes piece ≡ true

  pub record IsReadFull {A R : Type 0} (key : Key) (piece : Piece) (read : List ℕ → Result A R) (value : A) : Type 0 where
    pub bytes : List ℕ
    pub full : IsFull key piece bytes
    pub reads_as : read bytes ≡ Ok value

  -- ---- the index

  module _ (query : Query) (block : Block) where
    -- The selector takes these series by tables, of which all lists that it needs are read.
    pub record AreTaken (tables : Tables) (numbers : List ℕ) : Type 0 where
      pub lists_read : IsOk (lists_at tables.lists (rows_read block.external tables.rows query.selector))
      pub taken : IsTakenBy query block tables numbers

    pub record AreOfWhole (series : List IndexSeries) : Type 0 where
      pub bytes : List ℕ
      pub whole_so : Whole (Index block.ulid) bytes
      pub opened : Opened
      pub opened_is : opened_at bytes ≡ Ok opened
      pub numbers : List ℕ
      pub taken : AreTaken (tables_of opened) numbers
      pub read_so : AllZip (λ number one. numbered_at bytes opened.symbols number ≡ Ok one) numbers series

    -- a series was read in a range, which begins no later
    pub record IsSeriesRead (symbols : List (List ℕ)) (number : ℕ) (one : IndexSeries) : Type 0 where
      pub piece : Piece
      pub begins : piece.from ≤ 16 * number
      pub read_so : IsReadFull (Index block.ulid) piece (λ bytes. numbered_at (known (part_at piece bytes)) symbols number) one

    -- what is read of an index before its postings lists
    pub record AreTables (size : ℕ) (toc : Toc) (symbols : List (List ℕ)) (rows : List PostingsRow) : Type 0 where
      pub told : block.index_size ≡ Some size
      pub contents : IsReadFull (Index block.ulid) (contents_piece size) toc_at toc
      pub has : has_sections toc size ≡ true
      pub symbols_read : IsReadFull (Index block.ulid) (section_piece toc size toc.symbols)
          (λ bytes. symbols_at (known (part_at (section_piece toc size toc.symbols) bytes)) toc.symbols) symbols
      pub rows_found : IsReadFull (Index block.ulid) (section_piece toc size toc.postings_table)
          (λ bytes. postings_table_at (known (part_at (section_piece toc size toc.postings_table) bytes)) toc.postings_table) rows

    pub record AreOfRanges (series : List IndexSeries) : Type 0 where
      pub size : ℕ
      pub toc : Toc
      pub symbols : List (List ℕ)
      pub rows : List PostingsRow
      pub tables : AreTables size toc symbols rows
      pub lists : List ℕ
      pub lists_full : IsFull (Index block.ulid) (section_piece toc size toc.postings) lists
      pub numbers : List ℕ
      pub taken : AreTaken (record { symbols = symbols; rows = rows; lists = part_at (section_piece toc size toc.postings) lists }) numbers
      pub read_so : AllZip (IsSeriesRead symbols) numbers series

    -- the series that the selector takes from an index, by its ranges or the whole of it
    abbrev pub AreSeries : List IndexSeries → Type 0
    AreSeries series = AreOfWhole series ⊎ AreOfRanges series

  -- ---- chunks

  -- A chunk was read behind a place of a range, or with its own range.
  pub record IsChunkRead (ulid : ℕ) (tests : Tests) (one : Read) : Type 0 where
    pub piece : Piece
    pub first : ℕ
    pub same_segment : segment_of first ≡ segment_of one.reference
    pub behind : first ≤ one.reference
    pub from : piece.from ≡ offset_of first
    pub read_so : IsReadAt (Segment ulid (segment_of first)) piece (λ bytes. tests one.reference (drop (one.reference - first) bytes)) one.samples

  abbrev pub AreChunksRead : ℕ → Tests → List Read → Type 0
  AreChunksRead ulid tests all = AllByRecursion (IsChunkRead ulid tests) all

  -- ---- what is not as it has to be

  -- The read of a group shows of a chunk that it goes further.
  pub record SticksOut (ulid : ℕ) (tests : Tests) (IsSought : ℕ → Type 0) (stretch : Stretch ℕ) (reference len : ℕ) : Type 0 where
    pub same_segment : segment_of stretch.first ≡ segment_of reference
    pub within : IsWithin stretch reference
    pub sought : IsSought reference
    pub bytes : List ℕ
    pub known_so : Known (Segment ulid (segment_of stretch.first)) (group_piece stretch) bytes
    pub sees : glimpse_at tests (group_of stretch) bytes reference ≡ Ok (sticks_out len)

  -- Of a group one of its chunks, or of those that stick out one that was read, is not as it is told.
  abbrev pub LacksChunks : ℕ → Tests → (ℕ → Type 0) → Stretch ℕ → Type 0
  LacksChunks ulid tests IsSought stretch =
      (AllByRecursion (λ reference. IsWithin stretch reference × IsSought reference) (members stretch)
      × (bytes : List ℕ) × Known (Segment ulid (segment_of stretch.first)) (group_piece stretch) bytes
      × IsErr (each_at (glimpse_at tests (group_of stretch) bytes) (members stretch)))
      ⊎ ((reference : ℕ) × (len : ℕ) × SticksOut ulid tests IsSought stretch reference len
      × (bytes : List ℕ) × Known (Segment ulid (segment_of reference)) (record { from = offset_of reference; len = len }) bytes
      × IsErr (tests reference bytes))

  -- why a call over a block finds something damaged
  pub data IsSpoilt (query : Query) (block : Block) : Type 0 where
    no_index : (bytes : List ℕ) → Whole (Index block.ulid) bytes → IsErr (opened_at bytes) → IsSpoilt query block
    no_list : (bytes : List ℕ) (opened : Opened) → Whole (Index block.ulid) bytes → opened_at bytes ≡ Ok opened → LackLists query block (tables_of opened) → IsSpoilt query block
    no_series : (bytes : List ℕ) (opened : Opened) (numbers : List ℕ) → Whole (Index block.ulid) bytes → opened_at bytes ≡ Ok opened → AreTaken query block (tables_of opened) numbers
        → IsErr (each_at (numbered_at bytes opened.symbols) numbers) → IsSpoilt query block
    no_key : (series : List IndexSeries) → AreSeries query block series → have_keys (flat_map (taken query) series) ≡ false → IsSpoilt query block
    no_chunk : (series : List IndexSeries) (stretch : Stretch ℕ) → AreSeries query block series
        → LacksChunks block.ulid (tests_at query block (flat_map (taken query) series)) (IsSoughtOf query series) stretch → IsSpoilt query block
