-- What selecting series gives, matcher by matcher, or the first refusal.
use Rattle.std.specs.Prelude.{◌≡◌, ℕ, List, [], ◌∷◌, ◌++◌, map, slice_get, Option, Some, None, Bool, not, Result, Ok, if◌then◌else◌}
use Rattle.std.specs.List.{Contains, filter, flat_map}
use Rattle.std.specs.List.Sorted.{IsStrictlyIncreasing}
use Rattle.std.specs.Str.{bytes_eq}
use Rattle.base.specs.Lists.{is_one_of}
use Rattle.base.specs.Reading.{◌>>=◌}
use Rattle.label_sets.specs.declared.label.Label.{Label}
use Rattle.label_sets.specs.Labels.{value_of}
use Rattle.matchers.specs.declared.condition.Condition.{Condition}
use Rattle.matchers.specs.declared.matcher.Matcher.{Matcher}
use Rattle.matchers.specs.Selectors.{is_accepted}
use Rattle.index_parts.specs.declared.postings_row.PostingsRow.{PostingsRow}
use Rattle.index_parts.specs.Postings.{IsPostings}
use Rattle.index_parts.specs.Parts.{Part}
use Rattle.index_parts.specs.Opened.{Opened}
use Rattle.index_v2.specs.declared.refusal.IndexRefusal.{IndexRefusal}
use Rattle.index_v2.specs.Held.{Held, IsHeldOf}
use Rattle.index_v2.specs.PostingsLists.{list_of}
use Rattle.index_v2.specs.WholeReading.{lists_at}
use Rattle.series_selection.specs.Selections.{decides}

-- those that are among the others, or those that are not
abbrev pub kept_numbers : Bool → List ℕ → List ℕ → List ℕ
kept_numbers wanted others numbers = filter (λ n. if wanted then is_one_of others n else not (is_one_of others n)) numbers

-- the numbers in the lists of rows, list by list
unfoldable pub numbers_at : Part → List PostingsRow → Result (List ℕ) IndexRefusal
numbers_at part rows = do
  lists ← lists_at part rows
  Ok (flat_map (λ list. list) lists)

-- which of numbers are among others
abbrev pub marks_of : List ℕ → List ℕ → List Bool
marks_of others numbers = map (λ n. is_one_of others n) numbers

-- the lists of rows are read, and these marks say which of numbers they have
pub record AreMarked (part : Part) (rows : List PostingsRow) (numbers : List ℕ) (marks : List Bool) : Type 0 where
  pub listed : List ℕ
  pub read : numbers_at part rows ≡ Ok listed
  pub marks_are : marks ≡ marks_of listed numbers

-- those that a matcher leaves of numbers, by the rows
unfoldable pub left_by_rows : Part → List PostingsRow → Matcher → List ℕ → Result (List ℕ) IndexRefusal
left_by_rows part rows m numbers = do
  listed ← numbers_at part (filter (decides m) rows)
  Ok (kept_numbers (not (is_accepted m.condition [])) listed numbers)

-- by the external label of its name, or by the rows
abbrev pub left_by : Option (List ℕ) → Part → List PostingsRow → Matcher → List ℕ → Result (List ℕ) IndexRefusal
left_by (Some value) part rows m numbers = Ok (if is_accepted m.condition value then numbers else [])
left_by None part rows m numbers = left_by_rows part rows m numbers

unfoldable pub left_at : Held → List Label → List Matcher → List ℕ → Result (List ℕ) IndexRefusal
left_at held external [] numbers = Ok numbers
left_at held external (m ∷ selector) numbers = left_by (value_of external m.name) held.lists held.rows m numbers >>= left_at held external selector

-- the list of the first row, and what each matcher leaves of it
unfoldable pub selected_at : Held → List Label → List Matcher → Result (List ℕ) IndexRefusal
selected_at held external selector = list_of held.lists (slice_get held.rows 0) >>= left_at held external selector

-- The lists that are read of these rows stand so in each index of which this is held.
abbrev pub ListsStand : Held → List PostingsRow → Type 0
ListsStand held rows = (opened : Opened) → IsHeldOf held opened → (row : PostingsRow) → Contains rows row → (list : List ℕ) → list_of held.lists (Some row) ≡ Ok list → IsPostings opened.bytes row.offset list

-- The list of the row at a place was read behind other numbers.
pub record IsReadOn (held : Held) (place : ℕ) (before numbers : List ℕ) : Type 0 where
  pub list : List ℕ
  pub list_is : list_of held.lists (slice_get held.rows place) ≡ Ok list
  pub numbers_are : numbers ≡ before ++ list
  pub rises : IsStrictlyIncreasing list
  pub stands : (opened : Opened) → IsHeldOf held opened → (row : PostingsRow) → slice_get opened.rows place ≡ Some row → IsPostings opened.bytes row.offset list

-- A condition that one text decides: its rows are those of this value, and their series are wanted where it does not accept
-- the empty text.
pub record IsDecidedBy (condition : Condition) (text : List ℕ) (wanted : Bool) : Type 0 where
  pub wanted_is : wanted ≡ not (is_accepted condition [])
  pub decides_it : (value : List ℕ) → (if is_accepted condition [] then not (is_accepted condition value) else is_accepted condition value) ≡ bytes_eq value text
