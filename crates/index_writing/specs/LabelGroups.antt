-- The labels of series by numbers, and the lists that they make: of each label its series, and of each name its values.
use Rattle.std.specs.Prelude.{ℕ, List, [], ◌∷◌, ◌++◌, map, zip, Bool, ◌&&◌, ◌==◌, if◌then◌else◌}
use Rattle.std.specs.declared.cmp.Ordering.{Ordering}
use Rattle.std.specs.Ordering.{nat_cmp, ordering_then, is_lt}
use Rattle.label_sets.specs.Ordered.{in_order}
use Rattle.index_parts.specs.declared.raw_series.RawSeries.{RawSeries}
use Rattle.index_writing.specs.declared.label_groups.Entry.{Entry}
use Rattle.index_writing.specs.declared.label_groups.LabelRow.{LabelRow}
use Rattle.index_writing.specs.declared.label_groups.NameValues.{NameValues}

-- ---- the labels of each series, with its number

unfoldable pub entries_of : RawSeries → ℕ → List Entry
entries_of series number = map (λ label. record { name = label.0; value = label.1; series = number }) (zip series.names series.values)

unfoldable pub all_entries : List RawSeries → List ℕ → List Entry
all_entries [] numbers = []
all_entries (series ∷ others) [] = []
all_entries (series ∷ others) (number ∷ numbers) = entries_of series number ++ all_entries others numbers

-- their order: by name, by value, and by series
abbrev pub compare_entries : Entry → Entry → Ordering
compare_entries one other = ordering_then (nat_cmp one.name other.name) (ordering_then (nat_cmp one.value other.value) (nat_cmp one.series other.series))

abbrev pub is_lesser_entry : Entry → Entry → Bool
is_lesser_entry one other = is_lt (compare_entries one other)

-- ---- groups of neighbours

abbrev pub with_first : {A : Type 0} → (A → A → Bool) → (A → A → A) → A → List A → List A
with_first same join x [] = x ∷ []
with_first same join x (y ∷ ys) = if same x y then join x y ∷ ys else x ∷ y ∷ ys

-- neighbours of one kind are joined
unfoldable pub grouped : {A : Type 0} → (A → A → Bool) → (A → A → A) → List A → List A
grouped same join [] = []
grouped same join (x ∷ xs) = with_first same join x (grouped same join xs)

abbrev pub row_of_entry : Entry → LabelRow
row_of_entry entry = record { name = entry.name; value = entry.value; series = entry.series ∷ [] }

abbrev pub have_same_label : LabelRow → LabelRow → Bool
have_same_label one other = one.name == other.name && one.value == other.value

abbrev pub join_series : LabelRow → LabelRow → LabelRow
join_series one other = record { name = one.name; value = one.value; series = one.series ++ other.series }

-- each label of the entries once, in order, with the numbers of its series
unfoldable pub rows_of : List Entry → List LabelRow
rows_of entries = grouped have_same_label join_series (map row_of_entry (in_order is_lesser_entry entries))

abbrev pub values_of_row : LabelRow → NameValues
values_of_row row = record { name = row.name; values = row.value ∷ [] }

abbrev pub have_same_name : NameValues → NameValues → Bool
have_same_name one other = one.name == other.name

abbrev pub join_values : NameValues → NameValues → NameValues
join_values one other = record { name = one.name; values = one.values ++ other.values }

-- each name of the rows once, in order, with its values
unfoldable pub names_of : List LabelRow → List NameValues
names_of rows = grouped have_same_name join_values (map values_of_row rows)
