-- What reading a series gives, or the first refusal: first the series' own bytes, and then its symbol numbers from left to
-- right.
use Rattle.std.specs.Prelude.{ℕ, ◌*◌, List, [], ◌∷◌, length, slice_get, Result, Ok, Err, nat_lt}
use Rattle.std.specs.Ordering.{is_lt}
use Rattle.std.specs.Option.{ok_or}
use Rattle.base.specs.Reading.{◌>>=◌, ◌>>◌, unless, refused_as}
use Rattle.base.specs.Members.{members_at}
use Rattle.label_sets.specs.declared.label.Label.{Label}
use Rattle.label_sets.specs.Labels.{compare_texts}
use Rattle.index_parts.specs.declared.refusal.PartRefusal.{PartRefusal}
use Rattle.index_parts.specs.declared.refusal.PartRefusal.TheVariants.{Unordered}
use Rattle.index_parts.specs.declared.raw_series.RawLabel.{RawLabel}
use Rattle.wire_bytes.specs.Position.{Position}
use Rattle.index_parts.specs.SeriesReading.{labels_begin_at, label_at, chunks_at}
use Rattle.index_parts.specs.declared.index_series.IndexSeries.{IndexSeries}
use Rattle.index_parts.specs.IndexFile.{series_unit}
use Rattle.index_v2.specs.declared.refusal.IndexRefusal.{IndexRefusal}
use Rattle.index_v2.specs.Opening.{refused_of}

-- the texts of a label: the name's number stands for one above the name before it, and the value's for one that is not empty;
-- else the place of the number that does not
unfoldable pub label_of : List (List ℕ) → List ℕ → RawLabel → Result Label PartRefusal
label_of symbols before raw = do
  name ← ok_or (slice_get symbols raw.name.number) (Unordered raw.name.place)
  unless (is_lt (compare_texts before name)) (Unordered raw.name.place)
  value ← ok_or (slice_get symbols raw.value.number) (Unordered raw.value.place)
  unless (nat_lt 0 (length value)) (Unordered raw.value.place)
  Ok (record { name = name; value = value })

-- those of these labels, behind a name
unfoldable pub labels_of : List (List ℕ) → List ℕ → List RawLabel → Result (List Label) PartRefusal
labels_of symbols before [] = Ok []
labels_of symbols before (raw ∷ others) = do
  label ← label_of symbols before raw
  labels ← labels_of symbols label.name others
  Ok (label ∷ labels)

-- labels of which it is not told where their numbers stand
abbrev pub unplaced : ℕ → ℕ → RawLabel
unplaced name value = record { name = record { number = name; place = 0 }; value = record { number = value; place = 0 } }

abbrev pub all_unplaced : List ℕ → List ℕ → List RawLabel
all_unplaced [] values = []
all_unplaced (name ∷ names) [] = []
all_unplaced (name ∷ names) (value ∷ values) = unplaced name value ∷ all_unplaced names values

-- the texts of the next labels, so many, or the refusal of one of their numbers; and what follows the numbers
unfoldable pub texts_at : List (List ℕ) → List ℕ → ℕ → Position → Result (Result (List Label) PartRefusal × Position) PartRefusal
texts_at symbols before count p = do
  labels ← members_at label_at count p
  Ok (labels_of symbols before labels.0, labels.1)

-- a refusal that is told once the other labels have been passed
unfoldable pub faulty_at : PartRefusal → ℕ → Position → Result (Result (List Label) PartRefusal × Position) PartRefusal
faulty_at refusal count p = do
  labels ← members_at label_at count p
  Ok (Err refusal, labels.1)

-- the series at a place of the index
unfoldable pub labelled_at : List ℕ → List (List ℕ) → ℕ → Result IndexSeries PartRefusal
labelled_at index symbols at = do
  begin ← labels_begin_at index at
  texts ← texts_at symbols [] begin.0 begin.1
  chunks ← chunks_at texts.1
  labels ← texts.0
  Ok (record { labels = labels; chunks = chunks })

-- the series of a number, which stands at sixteen times the number
abbrev pub numbered_at : List ℕ → List (List ℕ) → ℕ → Result IndexSeries IndexRefusal
numbered_at index symbols number = refused_as (refused_of number) (labelled_at index symbols (series_unit * number))
