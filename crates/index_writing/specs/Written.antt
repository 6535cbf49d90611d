-- The one text that the writer writes for a list of series: the sections in the order symbols, series, label indices,
-- postings lists, the table of label indices, the postings table and the table of contents. Each series stands at a multiple
-- of one unit, each label index and each postings list at a multiple of another.
use Rattle.std.specs.Prelude.{◌≡◌, ℕ, ◌-◌, ◌*◌, ◌/◌, ◌^◌, ◌<◌, List, [], ◌∷◌, ◌++◌, length, map, zip, slice_get, Some, option_map, unwrap_or}
use Rattle.std.specs.List.{All, AllByRecursion}
use Rattle.std.specs.List.Sorted.{IsStrictlySortedBy}
use Rattle.std.specs.declared.cmp.Ordering.TheVariants.{Less}
use Rattle.label_sets.specs.declared.label.Label.{Label}
use Rattle.label_sets.specs.Labels.{compare_sets}
use Rattle.index_parts.specs.declared.postings_row.PostingsRow.{PostingsRow}
use Rattle.index_parts.specs.declared.raw_series.RawSeries.{RawSeries}
use Rattle.index_parts.specs.declared.toc_reading.Toc.{Toc}
use Rattle.index_parts.specs.Turns.{InOrder}
use Rattle.index_parts.specs.Contents.{toc_text}
use Rattle.index_parts.specs.LabelIndices.{label_index_text, label_offsets_text}
use Rattle.index_parts.specs.Postings.{postings_text}
use Rattle.index_parts.specs.Rows.{postings_table_text}
use Rattle.index_parts.specs.SeriesEntry.{StartsAfter, series_text}
use Rattle.index_parts.specs.Symbols.{symbols_text}
use Rattle.index_parts.specs.declared.index_series.IndexSeries.{IndexSeries}
use Rattle.index_writing.specs.declared.label_groups.LabelRow.{LabelRow}
use Rattle.index_writing.specs.declared.label_groups.NameValues.{NameValues}
use Rattle.index_writing.specs.declared.parts.Parts.{Parts}
use Rattle.index_parts.specs.IndexFile.{header, header_size, compare_series, series_unit}
use Rattle.index_writing.specs.SymbolsInUse.{symbols_of, symbol_of, raw_of}
use Rattle.index_writing.specs.LabelGroups.{all_entries, rows_of, names_of}
use Rattle.index_writing.specs.Aligned.{each_at, places_at}

-- ---- symbols and series

unfoldable pub up_to_symbols : List (List ℕ) → List ℕ
up_to_symbols symbols = header ++ symbols_text symbols

abbrev pub up_to_series : List ℕ → List RawSeries → List ℕ
up_to_series before series = each_at series_unit before (map series_text series)

-- a series' number: its place in units
abbrev pub numbers_behind : List ℕ → List RawSeries → List ℕ
numbers_behind before series = map (λ place. place / series_unit) (places_at series_unit before (map series_text series))

-- ---- label indices and postings lists

-- each of them stands at a multiple of this
abbrev pub list_unit : ℕ
list_unit = 4

abbrev pub label_index_texts : List NameValues → List (List ℕ)
label_index_texts names = map (λ name. label_index_text name.values) names

-- the list of all series, and that of each label
abbrev pub list_texts : List ℕ → List LabelRow → List (List ℕ)
list_texts numbers rows = postings_text numbers ∷ map (λ row. postings_text row.series) rows

-- ---- tables

abbrev pub name_texts : List (List ℕ) → List NameValues → List (List ℕ)
name_texts symbols names = map (λ name. symbol_of symbols name.name) names

-- the rows of labels, by the places of their lists
unfoldable pub label_rows : List (List ℕ) → List LabelRow → List ℕ → List PostingsRow
label_rows symbols [] places = []
label_rows symbols (row ∷ rows) [] = []
label_rows symbols (row ∷ rows) (place ∷ places) =
    record { name = symbol_of symbols row.name; value = symbol_of symbols row.value; offset = place } ∷ label_rows symbols rows places

-- the row of all series, and behind it those of the labels
unfoldable pub table_rows : List (List ℕ) → List LabelRow → List ℕ → List PostingsRow
table_rows symbols rows [] = []
table_rows symbols rows (place ∷ places) = record { name = []; value = []; offset = place } ∷ label_rows symbols rows places

-- ---- the whole

-- Series that a writer takes: they ascend by their labels, and the chunks of each are in order and apart.
pub record AreWritable (list : List IndexSeries) : Type 0 where
  pub ascend : IsStrictlySortedBy compare_series list
  pub chunks : AllByRecursion (λ series. InOrder StartsAfter series.chunks) list

-- labels that are greater than those of the last series, if there is one
abbrev pub IsBehind : List IndexSeries → List Label → Type 0
IsBehind list labels = (last : IndexSeries) → slice_get list (length list - 1) ≡ Some last → compare_sets last.labels labels ≡ Less

-- the numbers of series and of symbols have 32 bits
pub record HaveSmallNumbers (parts : Parts) : Type 0 where
  pub numbers : All (λ number. number < 2 ^ 32) parts.numbers
  pub rows : AllByRecursion (λ row. All (λ number. number < 2 ^ 32) row.series) parts.rows
  pub names : AllByRecursion (λ name. All (λ number. number < 2 ^ 32) name.values) parts.names

unfoldable pub parts_of : List IndexSeries → Parts
parts_of list =
    let symbols = symbols_of list in
    let series = map (raw_of symbols) list in
    let numbers = numbers_behind (up_to_symbols symbols) series in
    let rows = rows_of (all_entries series numbers) in
    record { symbols = symbols; symbols_end = length (up_to_symbols symbols); series = series; numbers = numbers; rows = rows; names = names_of rows }

-- the text up to the end of each section
unfoldable pub with_series : Parts → List ℕ
with_series parts = up_to_series (up_to_symbols parts.symbols) parts.series

unfoldable pub with_label_indices : Parts → List ℕ
with_label_indices parts = each_at list_unit (with_series parts) (label_index_texts parts.names)

unfoldable pub with_lists : Parts → List ℕ
with_lists parts = each_at list_unit (with_label_indices parts) (list_texts parts.numbers parts.rows)

-- the places of label indices and of postings lists
unfoldable pub label_index_places : Parts → List ℕ
label_index_places parts = places_at list_unit (with_series parts) (label_index_texts parts.names)

unfoldable pub list_places : Parts → List ℕ
list_places parts = places_at list_unit (with_label_indices parts) (list_texts parts.numbers parts.rows)

-- the rows of the table of label indices
abbrev pub offset_rows : Parts → List (List ℕ × ℕ)
offset_rows parts = zip (name_texts parts.symbols parts.names) (label_index_places parts)

unfoldable pub with_label_offsets : Parts → List ℕ
with_label_offsets parts = with_lists parts ++ label_offsets_text (offset_rows parts)

unfoldable pub with_table : Parts → List ℕ
with_table parts = with_label_offsets parts ++ postings_table_text (table_rows parts.symbols parts.rows (list_places parts))

-- the first of these places, or another where there is none
abbrev pub first_or : ℕ → List ℕ → ℕ
first_or other places = unwrap_or (slice_get places 0) other

-- Where the sections stand. Without series theirs is the place after the symbols; without label names there are no label
-- indices.
unfoldable pub toc_of : Parts → Toc
toc_of parts = record {
  symbols = header_size;
  series = unwrap_or (option_map (λ number. series_unit * number) (slice_get parts.numbers 0)) (length (up_to_symbols parts.symbols));
  label_indices = first_or 0 (label_index_places parts);
  label_offsets = length (with_lists parts);
  postings = first_or 0 (list_places parts);
  postings_table = length (with_label_offsets parts);
}

unfoldable pub written : List IndexSeries → List ℕ
written list = with_table (parts_of list) ++ toc_text (toc_of (parts_of list))
