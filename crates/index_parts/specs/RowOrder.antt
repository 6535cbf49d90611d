-- Where rows stand in a postings table.
use Rattle.std.specs.Prelude.{◌≡◌, ◌≢◌, ℕ, ◌<◌, ◌≤◌, Bool, List, [], ◌∷◌, length, slice_get, Some}
use Rattle.std.specs.List.{filter}
use Rattle.std.specs.declared.cmp.Ordering.{Ordering}
use Rattle.std.specs.declared.cmp.Ordering.TheVariants.{Less, Greater}
use Rattle.label_sets.specs.Labels.{compare_texts}
use Rattle.index_parts.specs.declared.postings_row.PostingsRow.{PostingsRow}
use Rattle.index_parts.specs.Rows.{compare_rows}

-- how a row stands to a name and a value
abbrev pub compare_row : PostingsRow → List ℕ → List ℕ → Ordering
compare_row row name value = compare_rows row (record { name = name; value = value; offset = 0 })

-- the row of this name and value stands at a place
pub record IsRowAt (rows : List PostingsRow) (name value : List ℕ) (place : ℕ) : Type 0 where
  pub row : PostingsRow
  pub stands : slice_get rows place ≡ Some row
  pub name_is : row.name ≡ name
  pub value_is : row.value ≡ value

-- A row of this name and value would stand at a place: the rows before it are less, and those from there on greater.
pub record StandsAt (rows : List PostingsRow) (name value : List ℕ) (place : ℕ) : Type 0 where
  pub within : place ≤ length rows
  pub below : (k : ℕ) (row : PostingsRow) → k < place → slice_get rows k ≡ Some row → compare_row row name value ≡ Less
  pub above : (k : ℕ) (row : PostingsRow) → place ≤ k → slice_get rows k ≡ Some row → compare_row row name value ≡ Greater

-- The rows of this name begin at a place: those before it have a lesser name, and those from there on have none.
pub record BeginsAt (rows : List PostingsRow) (name : List ℕ) (place : ℕ) : Type 0 where
  pub within : place ≤ length rows
  pub below : (k : ℕ) (row : PostingsRow) → k < place → slice_get rows k ≡ Some row → compare_texts row.name name ≡ Less
  pub above : (k : ℕ) (row : PostingsRow) → place ≤ k → slice_get rows k ≡ Some row → compare_texts row.name name ≢ Less

-- The row at a place is the only one that passes.
pub record IsAlone (passes : PostingsRow → Bool) (rows : List PostingsRow) (place : ℕ) : Type 0 where
  pub row : PostingsRow
  pub stands : slice_get rows place ≡ Some row
  pub only : filter passes rows ≡ row ∷ []
