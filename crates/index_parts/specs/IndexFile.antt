-- An index of version 2, apart from reading and writing: which bytes hold which series.
use Rattle.std.specs.Prelude.{◌≡◌, ◌≢◌, ◌⊎◌, ℕ, ◌+◌, ◌*◌, ◌≤◌, ◌==◌, List, [], ◌∷◌, ◌++◌, length, map, take, sum_by, slice_get, Option, Some, None, MatchBool}
use Rattle.std.specs.declared.cmp.Ordering.{Ordering}
use Rattle.std.specs.List.{Contains}
use Rattle.std.specs.List.Sorted.{IsStrictlySortedBy}
use Rattle.label_sets.specs.declared.label.Label.{Label}
use Rattle.label_sets.specs.Labels.{IsLabelSet, compare_sets, compare_texts}
use Rattle.index_parts.specs.declared.postings_row.PostingsRow.{PostingsRow}
use Rattle.index_parts.specs.Contents.{IsToc, contents_size}
use Rattle.index_parts.specs.Framed.{IsEntry}
use Rattle.index_parts.specs.Turns.{InOrder}
use Rattle.index_parts.specs.Symbols.{IsSymbols}
use Rattle.index_parts.specs.SeriesEntry.{IsSeries}
use Rattle.index_parts.specs.Postings.{IsPostings}
use Rattle.index_parts.specs.Rows.{IsPostingsTable}
use Rattle.index_parts.specs.declared.index_series.IndexSeries.{IndexSeries}
use Rattle.index_parts.specs.Opened.{Opened}
use Rattle.index_parts.specs.Parts.{file, lists_size}

-- ---- what an index begins and ends with, and its tables

abbrev pub magic : List ℕ
magic = 186 ∷ 170 ∷ 215 ∷ 0 ∷ []

abbrev pub version : ℕ
version = 2

-- the magic number and the version
abbrev pub header : List ℕ
header = magic ++ version ∷ []

abbrev pub header_size : ℕ
header_size = 5

-- the size of the header and the table of contents
abbrev pub least_size : ℕ
least_size = header_size + contents_size

-- A section that holds a list stands at its reference. The reference 0 says that there is none, and then the list is empty.
abbrev pub Holds : {A : Type 0} → (List ℕ → ℕ → List A → Type 0) → List ℕ → ℕ → List A → Type 0
Holds IsSectionOf index reference members = MatchBool (reference == 0) (members ≡ []) (IsSectionOf index reference members)

-- An index begins with the header and ends with the table of contents, which says where the symbols and the postings table
-- stand. Nothing is said here of what lies between sections, nor of the label indices and their table, which nobody reads
-- (LabelTable says which values they list).
pub record IsOpened (opened : Opened) : Type 0 where
  pub begins : take header_size opened.bytes ≡ header
  pub long : least_size ≤ length opened.bytes
  pub toc_is : IsToc opened.bytes opened.toc
  pub symbols_are : Holds IsSymbols opened.bytes opened.toc.symbols opened.symbols
  pub rows_are : Holds IsPostingsTable opened.bytes opened.toc.postings_table opened.rows

-- ---- series

-- the texts that symbol numbers stand for
abbrev pub StandFor : List (List ℕ) → List ℕ → List (List ℕ) → Type 0
StandFor symbols numbers texts = map (slice_get symbols) numbers ≡ map (λ text. Some text) texts

-- a series stands at a multiple of this, and its number says how many times
abbrev pub series_unit : ℕ
series_unit = 16

-- A series of this number stands at so many times the number, with its names and its values as symbol numbers. Its labels
-- are a label set.
pub record IsSeriesOf (index : List ℕ) (symbols : List (List ℕ)) (number : ℕ) (series : IndexSeries) : Type 0 where
  pub names : List ℕ
  pub values : List ℕ
  pub stands : IsSeries index (series_unit * number) (record { names = names; values = values; chunks = series.chunks })
  pub names_are : StandFor symbols names (map (λ l. l.name) series.labels)
  pub values_are : StandFor symbols values (map (λ l. l.value) series.labels)
  pub lawful : IsLabelSet series.labels

-- What the series of a number holds stands behind what that of another number holds, or it is the first.
abbrev pub StandsBehind : List ℕ → Option ℕ → ℕ → Type 0
StandsBehind index None number = Unit {0}
StandsBehind index (Some before) number = (content : List ℕ) → IsEntry index (series_unit * before) content → series_unit * before + length content ≤ series_unit * number

-- the order of series: by their labels
abbrev pub compare_series : IndexSeries → IndexSeries → Ordering
compare_series one other = compare_sets one.labels other.labels

-- ---- postings

-- A series belongs to the row of each of its labels; all series belong to the row of the empty pair.
abbrev pub BelongsTo : PostingsRow → IndexSeries → Type 0
BelongsTo row series = ((row.name ≡ []) × (row.value ≡ [])) ⊎ Contains series.labels (record { name = row.name; value = row.value })

-- At a row's place stands a list of exactly the numbers of the listed series that belong to the row.
pub record IsListOf (index : List ℕ) (listed : List (ℕ × IndexSeries)) (row : PostingsRow) : Type 0 where
  pub numbers : List ℕ
  pub stands : IsPostings index row.offset numbers
  pub only : (number : ℕ) → Contains numbers number → (series : IndexSeries) × Contains listed (number, series) × BelongsTo row series
  pub all : (number : ℕ) (series : IndexSeries) → Contains listed (number, series) → BelongsTo row series → Contains numbers number

-- such a list has no bytes left over behind its numbers
abbrev pub IsFullListOf : List ℕ → List (ℕ × IndexSeries) → PostingsRow → Type 0
IsFullListOf index listed row = (list : IsListOf index listed row) × (list.stands.left_over ≡ [])

-- the list of the table's first row; where there is no row there is no series
abbrev pub AreListed : List ℕ → List PostingsRow → List ℕ → Type 0
AreListed index [] numbers = numbers ≡ []
AreListed index (row ∷ rows) numbers = IsPostings index row.offset numbers

-- a row of this name and value stands in the table
abbrev pub HasRow : List PostingsRow → Label → Type 0
HasRow rows label = (row : PostingsRow) × Contains rows row × (row.name ≡ label.name) × (row.value ≡ label.value)

-- ---- the whole

-- The series that the table's first row lists by their numbers stand at these, one behind the other, and ascend by their
-- labels. An index with series has symbols, series and postings lists.
pub record AreSeriesOf (opened : Opened) (listed : List (ℕ × IndexSeries)) : Type 0 where
  pub numbers_are : AreListed opened.bytes opened.rows (map (λ one. one.0) listed)
  pub present : (listed ≡ []) ⊎ ((opened.toc.symbols ≢ 0) × (opened.toc.series ≢ 0) × (opened.toc.postings ≢ 0))
  pub stand : (number : ℕ) (series : IndexSeries) → Contains listed (number, series) → IsSeriesOf opened.bytes opened.symbols number series
  pub apart : InOrder (StandsBehind opened.bytes) (map (λ one. one.0) listed)
  pub ascend : IsStrictlySortedBy compare_series (map (λ one. one.1) listed)

-- how many labels series have together
abbrev pub labels_of : List IndexSeries → ℕ
labels_of list = sum_by (λ (series : IndexSeries). length series.labels) list

-- The lists of all rows, each as often as a row names it, have no more than eight bytes for each row, each label of a series and
-- each byte before the table. So their bytes can be read once for each row. Lists that have no bytes left over behind their numbers
-- never have more, wherever the table stands (law `full_lists_are_few` of index_v2).
abbrev pub AreFewLists : Opened → List IndexSeries → Type 0
AreFewLists opened list = lists_size (file opened.bytes) opened.rows ≤ 8 * (opened.toc.postings_table + length opened.rows + labels_of list)

-- The bytes are an index of these series. Each row of the table lists exactly its series, and each label of a series has its
-- row.
pub record IsIndex (index : List ℕ) (list : List IndexSeries) : Type 0 where
  pub opened : Opened
  pub bytes_are : opened.bytes ≡ index
  pub is_opened : IsOpened opened
  pub listed : List (ℕ × IndexSeries)
  pub list_is : map (λ one. one.1) listed ≡ list
  pub series_are : AreSeriesOf opened listed
  pub rows_are : (row : PostingsRow) → Contains opened.rows row → IsListOf opened.bytes listed row
  pub complete : (number : ℕ) (series : IndexSeries) → Contains listed (number, series) → (label : Label) → Contains series.labels label → HasRow opened.rows label
  pub lists_few : AreFewLists opened list

-- In an index of a list, these are exactly the numbers of the listed series with a name and a value; two empty texts stand
-- for all series.
pub record AreNumbersOf (listed : List (ℕ × IndexSeries)) (name value numbers : List ℕ) : Type 0 where
  pub only : (number : ℕ) → Contains numbers number → (series : IndexSeries) × Contains listed (number, series) × BelongsTo (record { name = name; value = value; offset = 0 }) series
  pub all : (number : ℕ) (series : IndexSeries) → Contains listed (number, series) → BelongsTo (record { name = name; value = value; offset = 0 }) series → Contains numbers number

-- In an index of a list, these are the values under a name, ascending: exactly those for which the table has a row, and so
-- each value that a listed series has under the name. A row may list no series. There is no value under an empty name.
pub record AreValuesOf (rows : List PostingsRow) (list : List IndexSeries) (name : List ℕ) (values : List (List ℕ)) : Type 0 where
  pub only : (value : List ℕ) → Contains values value → (name ≢ []) × HasRow rows (record { name = name; value = value })
  pub each : (value : List ℕ) → name ≢ [] → HasRow rows (record { name = name; value = value }) → Contains values value
  pub all : (series : IndexSeries) (value : List ℕ) → Contains list series → Contains series.labels (record { name = name; value = value }) → Contains values value
  pub ascend : IsStrictlySortedBy compare_texts values
