-- The first place of a postings table at which the lists are not those of the series.
use Rattle.std.specs.Prelude.{◌≡◌, ◌⊎◌, ℕ, ◌<◌, List, map, slice_get, Some}
use Rattle.std.specs.List.{Contains}
use Rattle.label_sets.specs.declared.label.Label.{Label}
use Rattle.index_parts.specs.declared.postings_row.PostingsRow.{PostingsRow}
use Rattle.index_parts.specs.Postings.{IsPostings}
use Rattle.index_parts.specs.declared.index_series.IndexSeries.{IndexSeries}
use Rattle.index_parts.specs.Opened.{Opened}
use Rattle.index_parts.specs.RowOrder.{StandsAt}
use Rattle.index_parts.specs.IndexFile.{AreSeriesOf, IsListOf, AreFewLists}

-- the row at a place does not list exactly its series
abbrev pub ListsOthersAt : List ℕ → List PostingsRow → List (ℕ × IndexSeries) → ℕ → Type 0
ListsOthersAt index rows listed place = (row : PostingsRow) × (slice_get rows place ≡ Some row) × (IsListOf index listed row → ⊥)

-- the row of a listed series' label is missing, and would stand at a place
abbrev pub LacksRowAt : List PostingsRow → List (ℕ × IndexSeries) → ℕ → Type 0
LacksRowAt rows listed place = (number : ℕ) × (series : IndexSeries) × (label : Label) × Contains listed (number, series) × Contains series.labels label × StandsAt rows label.name label.value place

-- at this place the lists are not those of the series
abbrev pub DiffersAt : List ℕ → List PostingsRow → List (ℕ × IndexSeries) → ℕ → Type 0
DiffersAt index rows listed place = ListsOthersAt index rows listed place ⊎ LacksRowAt rows listed place

-- These are the listed series, each row of the table has a list, the lists are few, and this is the first place of the table at
-- which they are not those of the series.
pub record DifferFirstAt (opened : Opened) (place : ℕ) : Type 0 where
  pub listed : List (ℕ × IndexSeries)
  pub series_are : AreSeriesOf opened listed
  pub lists_stand : (row : PostingsRow) → Contains opened.rows row → (numbers : List ℕ) × IsPostings opened.bytes row.offset numbers
  pub lists_few : AreFewLists opened (map (λ one. one.1) listed)
  pub differs : DiffersAt opened.bytes opened.rows listed place
  pub first : (k : ℕ) → k < place → DiffersAt opened.bytes opened.rows listed k → ⊥
