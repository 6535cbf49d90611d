-- What reading a whole index gives, or the first refusal.
use Rattle.std.specs.Prelude.{◌≡◌, ℕ, ◌+◌, ◌*◌, ◌≤◌, List, [], ◌∷◌, length, take, zip, All, Option, Some, None, Bool, true, false, ◌&&◌, Result, Ok, Err, ◌==◌, nat_lt, nat_le, min, if◌then◌else◌}
use Rattle.std.specs.List.{list_any, list_all}
use Rattle.std.specs.List.Sorted.{IsStrictlyIncreasing}
use Rattle.std.specs.Str.{bytes_eq}
use Rattle.std.specs.declared.cmp.Ordering.{Ordering}
use Rattle.std.specs.declared.cmp.Ordering.TheVariants.{Less, Equal, Greater}
use Rattle.std.specs.Ordering.{is_lt}
use Rattle.base.specs.Lists.{is_one_of}
use Rattle.base.specs.Reading.{◌>>=◌, ◌>>◌, unless, refused_as}
use Rattle.label_sets.specs.declared.label.Label.{Label}
use Rattle.label_sets.specs.Labels.{compare_sets, value_of}
use Rattle.index_parts.specs.declared.refusal.PartRefusal.TheVariants as part
use Rattle.index_parts.specs.declared.toc_reading.Toc.{Toc}
use Rattle.index_parts.specs.declared.postings_row.PostingsRow.{PostingsRow}
use Rattle.index_parts.specs.Parts.{Part, list_in, lists_size}
use Rattle.index_parts.specs.declared.index_series.IndexSeries.{IndexSeries}
use Rattle.index_parts.specs.IndexFile.{series_unit, labels_of}
use Rattle.index_v2.specs.declared.refusal.IndexRefusal.{IndexRefusal}
use Rattle.index_v2.specs.declared.refusal.IndexRefusal.TheVariants.{BadSection, BadSeries, PostingsDiffer}
use Rattle.index_v2.specs.Held.{Held}
use Rattle.index_v2.specs.Opening.{refused_in, symbols_section, series_section, postings_section}
use Rattle.index_v2.specs.SeriesLabels.{numbered_at}
use Rattle.index_v2.specs.Sizes.{series_bytes}
use Rattle.index_parts.specs.RowOrder.{compare_row}
use Rattle.index_v2.specs.PostingsLists.{postings_of}

-- An index that lists a series has symbols, series and postings lists.
unfoldable pub present_at : Toc → List ℕ → Result (Unit {0}) IndexRefusal
present_at toc [] = Ok tt
present_at toc (number ∷ numbers) = do
  unless (nat_lt 0 toc.symbols) (BadSection symbols_section (part.Short 0))
  unless (nat_lt 0 toc.series) (BadSection series_section (part.Short 0))
  unless (nat_lt 0 toc.postings) (BadSection postings_section (part.Short 0))
  Ok tt

-- ---- the listed series, one behind the other, ascending by their labels

-- whether the series of a number stands behind what that of another number holds, or first
abbrev pub stands_behind : List ℕ → Option ℕ → ℕ → Bool
stands_behind index None number = true
stands_behind index (Some before) number = nat_le (series_unit * before + series_bytes index before) (series_unit * number)

-- whether the labels of a series may stand behind those of another, or first
abbrev pub may_stand_behind : Option IndexSeries → IndexSeries → Bool
may_stand_behind None series = true
may_stand_behind (Some before) series = is_lt (compare_sets before.labels series.labels)

-- the series of a number behind that of another number
unfoldable pub behind_at : List ℕ → List (List ℕ) → Option ℕ → Option IndexSeries → ℕ → Result IndexSeries IndexRefusal
behind_at index symbols last before number = do
  series ← numbered_at index symbols number
  unless (stands_behind index last number && may_stand_behind before series) (BadSeries number (part.Unordered (series_unit * number)))
  Ok series

unfoldable pub all_at : List ℕ → List (List ℕ) → Option ℕ → Option IndexSeries → List ℕ → Result (List IndexSeries) IndexRefusal
all_at index symbols last before [] = Ok []
all_at index symbols last before (number ∷ numbers) = do
  series ← behind_at index symbols last before number
  others ← all_at index symbols (Some number) (Some series) numbers
  Ok (series ∷ others)

-- ---- the postings lists, in the table's order

-- together they are few for the rows, the labels of the series and the bytes before the table: tested before any of them is read
unfoldable pub few_at : Toc → Part → List PostingsRow → List IndexSeries → Result (Unit {0}) IndexRefusal
few_at toc here rows series =
    unless (nat_le (lists_size here rows) (8 * (toc.postings_table + length rows + labels_of series))) (BadSection postings_section (part.Unordered toc.postings))

unfoldable pub lists_at : Part → List PostingsRow → Result (List (List ℕ)) IndexRefusal
lists_at part [] = Ok []
lists_at part (row ∷ rows) = do
  list ← refused_as (refused_in postings_section) (list_in part row.offset)
  others ← lists_at part rows
  Ok (list ∷ others)

-- ---- where they differ from the series

abbrev pub has_value : List ℕ → Option (List ℕ) → Bool
has_value value None = false
has_value value (Some found) = bytes_eq found value

-- whether a series stands in the row of a name and a value: all do in that of the empty pair
unfoldable pub belongs : List ℕ → List ℕ → IndexSeries → Bool
belongs name value series =
    if (length name == 0) && (length value == 0) then true else has_value value (value_of series.labels name)

-- a number of a listed series that stands in the row
abbrev pub is_of_row : List (ℕ × IndexSeries) → PostingsRow → ℕ → Bool
is_of_row listed row number = list_any (λ (one : ℕ × IndexSeries). (one.0 == number) && belongs row.name row.value one.1) listed

-- the place of the first row, from this one on, whose list has another number
unfoldable pub stray_from : ℕ → List PostingsRow → List (List ℕ) → List (ℕ × IndexSeries) → Option ℕ
stray_from place [] lists listed = None
stray_from place (row ∷ rows) [] listed = None
stray_from place (row ∷ rows) (list ∷ lists) listed =
    if list_all (is_of_row listed row) list then stray_from (place + 1) rows lists listed else Some place

abbrev pub by_order : Ordering → Option ℕ → Option ℕ → Option ℕ → Option ℕ
by_order Less further here missing = further
by_order Equal further here missing = here
by_order Greater further here missing = missing

-- the place of a label's row where its list lacks a number, or where the row is missing the place where it would stand
unfoldable pub gap_from : ℕ → List PostingsRow → List (List ℕ) → ℕ → Label → Option ℕ
gap_from place [] lists number label = Some place
gap_from place (row ∷ rows) [] number label = Some place
gap_from place (row ∷ rows) (list ∷ lists) number label =
    by_order (compare_row row label.name label.value) (gap_from (place + 1) rows lists number label) (if is_one_of list number then None else Some place) (Some place)

-- the lesser of two places, if there is one
abbrev pub earlier_place : Option ℕ → Option ℕ → Option ℕ
earlier_place None other = other
earlier_place (Some one) None = Some one
earlier_place (Some one) (Some other) = Some (min one other)

-- the least place of these for a series' labels
unfoldable pub gap_of : List PostingsRow → List (List ℕ) → ℕ → List Label → Option ℕ
gap_of rows lists number [] = None
gap_of rows lists number (label ∷ labels) = earlier_place (gap_from 0 rows lists number label) (gap_of rows lists number labels)

-- for all series
unfoldable pub gap_among : List PostingsRow → List (List ℕ) → List (ℕ × IndexSeries) → Option ℕ
gap_among rows lists [] = None
gap_among rows lists (one ∷ listed) = earlier_place (gap_of rows lists one.0 one.1.labels) (gap_among rows lists listed)

-- the least place at which the lists are not exactly those of the series
abbrev pub difference : List PostingsRow → List (List ℕ) → List (ℕ × IndexSeries) → Option ℕ
difference rows lists listed = earlier_place (stray_from 0 rows lists listed) (gap_among rows lists listed)

-- by reading the lists
unfoldable pub differing_at : Part → List PostingsRow → List (ℕ × IndexSeries) → Result (Option ℕ) IndexRefusal
differing_at part rows listed = do
  lists ← lists_at part rows
  Ok (difference rows lists listed)

-- the same lists before a place, or throughout
abbrev pub SameBefore : Option ℕ → List (List ℕ) → List (List ℕ) → Type 0
SameBefore None kept lists = kept ≡ lists
SameBefore (Some place) kept lists = (place ≤ length kept) × (take place kept ≡ take place lists)

-- All lists are read, and the first row whose list has a number of another series is at this place. The lists before it are
-- kept, and behind them stand as many others as there are rows.
pub record AreKept (part : Part) (rows : List PostingsRow) (listed : List (ℕ × IndexSeries)) (kept : List (List ℕ)) (stray : Option ℕ) : Type 0 where
  pub lists : List (List ℕ)
  pub read : lists_at part rows ≡ Ok lists
  pub many : length rows ≡ length kept
  pub rise : All IsStrictlyIncreasing kept
  pub stray_is : stray ≡ stray_from 0 rows lists listed
  pub same : SameBefore stray kept lists

abbrev pub unless_differ : Option ℕ → Result (Unit {0}) IndexRefusal
unless_differ None = Ok tt
unless_differ (Some place) = Err (PostingsDiffer place)

-- ---- the whole

-- the list of all series, absent sections, the series in order, how long the lists are, these in the table's order, and last whether
-- these are exactly those of the series
unfoldable pub whole_at : Held → Result (List IndexSeries) IndexRefusal
whole_at held = do
  numbers ← postings_of held [] []
  present_at held.toc numbers
  series ← all_at held.bytes held.symbols None None numbers
  few_at held.toc held.lists held.rows series
  where_differ ← differing_at held.lists held.rows (zip numbers series)
  unless_differ where_differ
  Ok series
