-- The symbols that a writer writes: the names and values that are in use.
use Rattle.std.specs.Prelude.{ℕ, List, [], ◌∷◌, slice_get, unwrap_or, map}
use Rattle.std.specs.List.{flat_map, dedup, prefix_len}
use Rattle.std.specs.Str.{bytes_eq}
use Rattle.label_sets.specs.Labels.{is_lesser_text}
use Rattle.label_sets.specs.Ordered.{in_order}
use Rattle.label_sets.specs.declared.label.Label.{Label}
use Rattle.index_parts.specs.declared.raw_series.RawSeries.{RawSeries}
use Rattle.index_parts.specs.declared.index_series.IndexSeries.{IndexSeries}

-- the name and the value of each label
abbrev pub texts_of_labels : List Label → List (List ℕ)
texts_of_labels labels = flat_map (λ l. l.name ∷ l.value ∷ []) labels

unfoldable pub texts_of : List IndexSeries → List (List ℕ)
texts_of list = flat_map (λ s. texts_of_labels s.labels) list

-- each of these texts once, ascending
unfoldable pub symbols_of : List IndexSeries → List (List ℕ)
symbols_of list = dedup bytes_eq (in_order is_lesser_text (texts_of list))

-- a symbol's number: how many symbols stand before it
unfoldable pub number_of : List (List ℕ) → List ℕ → ℕ
number_of symbols text = prefix_len (λ symbol. is_lesser_text symbol text) symbols

-- the symbol of a number
unfoldable pub symbol_of : List (List ℕ) → ℕ → List ℕ
symbol_of symbols number = unwrap_or (slice_get symbols number) []

-- a series with its names and values as symbol numbers
unfoldable pub raw_of : List (List ℕ) → IndexSeries → RawSeries
raw_of symbols series = record {
  names = map (λ l. number_of symbols l.name) series.labels;
  values = map (λ l. number_of symbols l.value) series.labels;
  chunks = series.chunks;
}
