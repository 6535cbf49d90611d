-- What reading a series gives, or the first refusal.
use Rattle.std.specs.Prelude.{ℕ, ◌/◌, ◌%◌, ◌^◌, List, map, Option, Some, None, Bool, false, Result, Ok, nat_lt, ℤ, pos, negsuc, ◌+ℤ◌}
use Rattle.std.specs.Int.RustNames.{unsigned_abs}
use Rattle.base.specs.Reading.{◌>>=◌, ◌>>◌, unless}
use Rattle.base.specs.Members.{members_at}
use Rattle.base.specs.Decimal.{fits_signed}
use Rattle.wire_bytes.specs.Position.{Position}
use Rattle.wire_bytes.specs.Fields.{uvarint_at, varint_at}
use Rattle.index_parts.specs.declared.refusal.PartRefusal.{PartRefusal}
use Rattle.index_parts.specs.declared.refusal.PartRefusal.TheVariants.{Overlong}
use Rattle.index_parts.specs.declared.chunk_place.ChunkPlace.{ChunkPlace}
use Rattle.index_parts.specs.declared.raw_series.SymbolNumber.{SymbolNumber}
use Rattle.index_parts.specs.declared.raw_series.RawLabel.{RawLabel}
use Rattle.index_parts.specs.declared.raw_series.RawSeries.{RawSeries}
use Rattle.index_parts.specs.Placed.{field}
use Rattle.index_parts.specs.Framing.{entry_at}
use Rattle.index_parts.specs.ListReading.{turns_at}
use Rattle.index_parts.specs.SeriesEntry.{reference_of, offset_count}

-- the unsigned numbers of 64 bits
abbrev pub fits_unsigned : ℤ → Bool
fits_unsigned (pos n) = nat_lt n (2 ^ 64)
fits_unsigned (negsuc n) = false

-- ---- labels

-- how many labels the series at a place has, and where they begin
unfoldable pub labels_begin_at : List ℕ → ℕ → Result (ℕ × Position) PartRefusal
labels_begin_at index at = do
  content ← entry_at index at
  field uvarint_at content

-- a symbol number with its place
unfoldable pub symbol_number_at : Position → Result (SymbolNumber × Position) PartRefusal
symbol_number_at p = do
  number ← field uvarint_at p
  Ok (record { number = number.0; place = p.place }, number.1)

unfoldable pub label_at : Position → Result (RawLabel × Position) PartRefusal
label_at p = do
  name ← symbol_number_at p
  value ← symbol_number_at name.1
  Ok (record { name = name.0; value = value.0 }, value.1)

abbrev pub names_of : List RawLabel → List ℕ
names_of labels = map (λ label. label.name.number) labels

abbrev pub values_of : List RawLabel → List ℕ
values_of labels = map (λ label. label.value.number) labels

-- so many labels: the numbers of the names and those of the values
unfoldable pub labels_at : ℕ → Position → Result ((List ℕ × List ℕ) × Position) PartRefusal
labels_at count p = do
  labels ← members_at label_at count p
  Ok ((names_of labels.0, values_of labels.0), labels.1)

-- ---- chunks

-- a time that comes so long after another
unfoldable pub later_at : ℤ → Position → Result (ℤ × Position) PartRefusal
later_at time p = do
  by ← field uvarint_at p
  unless (fits_signed (time +ℤ pos by.0)) (Overlong p.place)
  Ok (time +ℤ pos by.0, by.1)

-- a reference that is so far from another
unfoldable pub moved_at : ℕ → Position → Result (ℕ × Position) PartRefusal
moved_at reference p = do
  by ← field varint_at p
  unless (fits_unsigned (pos reference +ℤ by.0)) (Overlong p.place)
  Ok (unsigned_abs (pos reference +ℤ by.0), by.1)

unfoldable pub begin_at : Option ChunkPlace → Position → Result (ℤ × Position) PartRefusal
begin_at None p = field varint_at p
begin_at (Some before) p = later_at before.max p

unfoldable pub reference_at : Option ChunkPlace → Position → Result (ℕ × Position) PartRefusal
reference_at None p = field uvarint_at p
reference_at (Some before) p = moved_at (reference_of before) p

abbrev pub chunk_of : ℤ → ℤ → ℕ → ChunkPlace
chunk_of min max reference = record { min = min; max = max; segment = reference / offset_count; offset = reference % offset_count }

unfoldable pub chunk_at : Option ChunkPlace × Position → Result (ChunkPlace × (Option ChunkPlace × Position)) PartRefusal
chunk_at s = do
  min ← begin_at s.0 s.1
  max ← later_at min.0 min.1
  reference ← reference_at s.0 max.1
  Ok (chunk_of min.0 max.0 reference.0, (Some (chunk_of min.0 max.0 reference.0), reference.1))

-- the chunks behind their count
unfoldable pub chunks_at : Position → Result (List ChunkPlace) PartRefusal
chunks_at p = do
  count ← field uvarint_at p
  turns_at chunk_at count.0 count.1

-- ---- the series

unfoldable pub series_at : List ℕ → ℕ → Result RawSeries PartRefusal
series_at index at = do
  begin ← labels_begin_at index at
  labels ← labels_at begin.0 begin.1
  chunks ← chunks_at labels.1
  Ok (record { names = labels.0.0; values = labels.0.1; chunks = chunks })
