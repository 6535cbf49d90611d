-- A series that stands in a part of an index, and the same in the index.
use Rattle.std.proofs.Common.{◌≡◌, ℕ, ◌-◌, ◌≤◌, List, ◌++◌, refl}
use Rattle.wire_bytes.specs.Fields.{uvarint_at}
use Rattle.wire_bytes.specs.FieldTexts.{IsUvarint}
use Rattle.index_parts.specs.declared.raw_series.RawSeries.{RawSeries}
use Rattle.index_parts.specs.Framing.{framed_at}
use Rattle.index_parts.specs.SeriesEntry.{IsSeries}
use Rattle.index_parts.specs.SeriesReading.{labels_begin_at}
use Rattle.index_parts.proofs.SymbolLaws.{uvarint_size}
use Rattle.index_parts.specs.Parts.{Part, IsPartOf, HoldsSeries}
use Rattle.index_parts.proofs.FieldShifts.{uvarint_field}
use Rattle.index_parts.proofs.Longer.{entry_longer}
use Rattle.index_parts.proofs.Slices.{frame_stands, frame_in_index}

-- what stands in the part stands in the index
pub series_stands : (part : Part) (index : List ℕ) (at : ℕ) (series : RawSeries) → IsPartOf part index → part.begin ≤ at → IsSeries part.bytes (at - part.begin) series → IsSeries index at series
series_stands part index at series is le stands = record {
  content = stands.content;
  label_count = stands.label_count;
  labels = stands.labels;
  chunk_count = stands.chunk_count;
  chunks = stands.chunks;
  left_over = stands.left_over;
  entry = frame_stands IsUvarint uvarint_size part index at stands.content is le stands.entry;
  content_is = stands.content_is;
  as_many = stands.as_many;
  label_count_is = stands.label_count_is;
  labels_are = stands.labels_are;
  chunk_count_is = stands.chunk_count_is;
  chunks_are = stands.chunks_are;
}

begin_by_frame : (index other : List ℕ) (at : ℕ) → framed_at uvarint_at index at ≡ framed_at uvarint_at other at → labels_begin_at index at ≡ labels_begin_at other at
unfolding labels_begin_at
begin_by_frame index other at e = rw e refl

module _ (part : Part) (index : List ℕ) (at : ℕ) (is : IsPartOf part index) (lies : HoldsSeries part at) where
  pub begin_in_index : labels_begin_at index at ≡ labels_begin_at (is.before ++ part.bytes) at
  begin_in_index = begin_by_frame index (is.before ++ part.bytes) at (frame_in_index uvarint_at uvarint_field entry_longer part index at is lies)
