-- A series as it stands in an index: its labels as symbol numbers, and the places of its chunks, each told from the one
-- before it.
use Rattle.std.specs.Prelude.{◌≡◌, ℕ, ◌+◌, ◌*◌, ◌^◌, ◌<◌, List, ◌++◌, length, zip, Option, Some, None, ℤ, pos, ◌+ℤ◌, ◌-ℤ◌, ◌≤ℤ◌, [], ◌∷◌}
use Rattle.std.specs.List.{flat_map}
use Rattle.std.specs.Int.{w64}
use Rattle.std.specs.Int.RustNames.{FitsSigned, unsigned_abs}
use Rattle.base.specs.Grammar.{AreTexts}
use Rattle.wire_bytes.specs.FieldTexts.{IsUvarint, IsVarint}
use Rattle.wire_bytes.specs.Written.{uvarint_text, varint_text}
use Rattle.index_parts.specs.declared.chunk_place.ChunkPlace.{ChunkPlace}
use Rattle.index_parts.specs.declared.raw_series.RawSeries.{RawSeries}
use Rattle.index_parts.specs.Turns.{AreInTurn}
use Rattle.index_parts.specs.Framed.{IsEntry, entry_text}

-- how many places in a segment file a reference can tell
abbrev pub offset_count : ℕ
offset_count = 2 ^ 32

-- a chunk's reference: the number of its segment file, and below it the place in the file
abbrev pub reference_of : ChunkPlace → ℕ
reference_of chunk = chunk.segment * offset_count + chunk.offset

-- the symbol numbers of a name and of its value
pub record IsLabel (text : List ℕ) (label : ℕ × ℕ) : Type 0 where
  pub name : List ℕ
  pub value : List ℕ
  pub name_is : IsUvarint name label.0
  pub value_is : IsUvarint value label.1
  pub text_is : text ≡ name ++ value

-- The first chunk's begin is told itself, that of a later one by how long it comes after the end of the one before it.
abbrev pub Begins : Option ChunkPlace → List ℕ → ℤ → Type 0
Begins None text min = IsVarint text min
Begins (Some before) text min = (gap : ℕ) × IsUvarint text gap × (min ≡ before.max +ℤ pos gap)

-- The first chunk's reference is told itself, that of a later one by how far it is from the one before it.
abbrev pub Refers : Option ChunkPlace → List ℕ → ℕ → Type 0
Refers None text reference = IsUvarint text reference
Refers (Some before) text reference = (step : ℤ) × IsVarint text step × (pos reference ≡ pos (reference_of before) +ℤ step)

-- a chunk: its begin, how long it lasts, and its reference
pub record IsNextChunk (before : Option ChunkPlace) (text : List ℕ) (chunk : ChunkPlace) : Type 0 where
  pub begin : List ℕ
  pub span : List ℕ
  pub reference : List ℕ
  pub lasts : ℕ
  pub begins : Begins before begin chunk.min
  pub span_is : IsUvarint span lasts
  pub max_is : chunk.max ≡ chunk.min +ℤ pos lasts
  pub min_fits : FitsSigned w64 chunk.min
  pub max_fits : FitsSigned w64 chunk.max
  pub refers : Refers before reference (reference_of chunk)
  pub segment_fits : chunk.segment < 2 ^ 32
  pub offset_fits : chunk.offset < offset_count
  pub text_is : text ≡ begin ++ span ++ reference

-- At a place of the index stands a series: the labels' count, the labels, the chunks' count and the chunks; bytes may be
-- left over.
pub record IsSeries (index : List ℕ) (at : ℕ) (series : RawSeries) : Type 0 where
  pub content : List ℕ
  pub label_count : List ℕ
  pub labels : List ℕ
  pub chunk_count : List ℕ
  pub chunks : List ℕ
  pub left_over : List ℕ
  pub entry : IsEntry index at content
  pub content_is : content ≡ label_count ++ labels ++ chunk_count ++ chunks ++ left_over
  pub as_many : length series.names ≡ length series.values
  pub label_count_is : IsUvarint label_count (length series.names)
  pub labels_are : AreTexts IsLabel labels (zip series.names series.values)
  pub chunk_count_is : IsUvarint chunk_count (length series.chunks)
  pub chunks_are : AreInTurn IsNextChunk None chunks series.chunks

-- ---- what a writer puts

abbrev pub label_text : ℕ × ℕ → List ℕ
label_text label = uvarint_text label.0 ++ uvarint_text label.1

-- how long one time comes after another
abbrev pub span : ℤ → ℤ → ℕ
span begin end = unsigned_abs (end -ℤ begin)

abbrev pub begin_text : Option ChunkPlace → ChunkPlace → List ℕ
begin_text None chunk = varint_text chunk.min
begin_text (Some before) chunk = uvarint_text (span before.max chunk.min)

abbrev pub refer_text : Option ChunkPlace → ChunkPlace → List ℕ
refer_text None chunk = uvarint_text (reference_of chunk)
refer_text (Some before) chunk = varint_text (pos (reference_of chunk) -ℤ pos (reference_of before))

abbrev pub chunk_text : Option ChunkPlace → ChunkPlace → List ℕ
chunk_text before chunk = begin_text before chunk ++ uvarint_text (span chunk.min chunk.max) ++ refer_text before chunk

unfoldable pub chunks_text : Option ChunkPlace → List ChunkPlace → List ℕ
chunks_text before [] = []
chunks_text before (chunk ∷ chunks) = chunk_text before chunk ++ chunks_text (Some chunk) chunks

unfoldable pub labels_text : RawSeries → List ℕ
labels_text series = uvarint_text (length series.names) ++ flat_map label_text (zip series.names series.values)

abbrev pub series_content : RawSeries → List ℕ
series_content series = labels_text series ++ (uvarint_text (length series.chunks) ++ chunks_text None series.chunks)

abbrev pub series_text : RawSeries → List ℕ
series_text series = entry_text (series_content series)

-- the number of a chunk's file has 31 bits, so that the step from one reference to the next is a number of 64
abbrev pub segment_bound : ℕ
segment_bound = 2 ^ 31

-- A chunk may stand behind another where it does not begin before that one ends, nor ends before it begins.
abbrev pub StartsAfter : Option ChunkPlace → ChunkPlace → Type 0
StartsAfter None chunk = (chunk.min ≤ℤ chunk.max) × (chunk.segment < segment_bound)
StartsAfter (Some before) chunk = (before.max ≤ℤ chunk.min) × (chunk.min ≤ℤ chunk.max) × (chunk.segment < segment_bound) × (before.segment < segment_bound)

-- what the types of a chunk's fields say
abbrev pub FitsTypes : ChunkPlace → Type 0
FitsTypes chunk = FitsSigned w64 chunk.min × FitsSigned w64 chunk.max × (chunk.segment < 2 ^ 32) × (chunk.offset < offset_count)
