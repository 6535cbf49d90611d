-- Which series a selector takes from an index. It is a matter of the postings table alone: of the names and values of its
-- rows, and of the numbers in their lists. No series is looked at.
use Rattle.std.specs.Prelude.{◌≡◌, ◌↔◌, ℕ, List, [], ◌∷◌, ◌++◌, take, Option, Some, None, is_some, Bool, ◌&&◌, not, All, IsTrue, IsFalse, if◌then◌else◌}
use Rattle.std.specs.Bool.{MatchBool}
use Rattle.std.specs.List.{Contains, filter, flat_map}
use Rattle.std.specs.Str.{bytes_eq}
use Rattle.std.specs.List.Sorted.{IsStrictlyIncreasing}
use Rattle.label_sets.specs.declared.label.Label.{Label}
use Rattle.label_sets.specs.Labels.{value_of}
use Rattle.label_sets.specs.Finals.{final_of}
use Rattle.matchers.specs.declared.matcher.Matcher.{Matcher}
use Rattle.matchers.specs.Selectors.{is_accepted, is_match}
use Rattle.index_parts.specs.declared.index_series.IndexSeries.{IndexSeries}
use Rattle.index_parts.specs.declared.postings_row.PostingsRow.{PostingsRow}

-- Below, Lists says which numbers the list of a row has.

-- The list of the row has the number.
pub record HasNumber (Lists : PostingsRow → List ℕ → Type 0) (row : PostingsRow) (number : ℕ) : Type 0 where
  pub numbers : List ℕ
  pub list_is : Lists row numbers
  pub has : Contains numbers number

-- The list of the table's first row, which is that of all series, has the number.
pub record IsListed (Lists : PostingsRow → List ℕ → Type 0) (rows : List PostingsRow) (number : ℕ) : Type 0 where
  pub first : PostingsRow
  pub others : List PostingsRow
  pub begins : rows ≡ first ∷ others
  pub listed : HasNumber Lists first number

-- The list of a row with this name has the number, and this holds of the row's value.
pub record StandsUnder (Lists : PostingsRow → List ℕ → Type 0) (rows : List PostingsRow) (name : List ℕ) (Holds : List ℕ → Type 0) (number : ℕ) : Type 0 where
  pub row : PostingsRow
  pub among : Contains rows row
  pub name_is : row.name ≡ name
  pub holds : Holds row.value
  pub listed : HasNumber Lists row number

-- What a matcher takes of the listed series where no external label has its name. One that accepts the empty value takes
-- all but those that stand under a value which it refuses; another takes those that stand under a value which it accepts.
abbrev pub TakesByRows : (PostingsRow → List ℕ → Type 0) → List PostingsRow → Matcher → ℕ → Type 0
TakesByRows Lists rows m number =
    MatchBool (is_accepted m.condition [])
    (¬ StandsUnder Lists rows m.name (λ value. IsFalse (is_accepted m.condition value)) number)
    (StandsUnder Lists rows m.name (λ value. IsTrue (is_accepted m.condition value)) number)

-- Where an external label has the name, it is that label's value which counts, for all series alike.
abbrev pub TakesBy : Option (List ℕ) → (PostingsRow → List ℕ → Type 0) → List PostingsRow → Matcher → ℕ → Type 0
TakesBy (Some value) Lists rows m number = IsTrue (is_accepted m.condition value)
TakesBy None Lists rows m number = TakesByRows Lists rows m number

-- The selector takes the series with this number, in a block with these external labels.
pub record IsTaken (Lists : PostingsRow → List ℕ → Type 0) (rows : List PostingsRow) (external : List Label) (selector : List Matcher) (number : ℕ) : Type 0 where
  pub listed : IsListed Lists rows number
  pub by_all : All (λ m. TakesBy (value_of external m.name) Lists rows m number) selector

-- These are the numbers of the series that the selector takes, each once, in ascending order.
pub record IsSelection (Lists : PostingsRow → List ℕ → Type 0) (rows : List PostingsRow) (external : List Label) (selector : List Matcher) (numbers : List ℕ) : Type 0 where
  pub ascend : IsStrictlyIncreasing numbers
  pub taken : (number : ℕ) → Contains numbers number ↔ IsTaken Lists rows external selector number

-- ---- the lists that are read

-- whether a row's list decides what the matcher takes: its name is the matcher's, and its value is refused by a matcher that
-- accepts the empty value, or accepted by one that does not
abbrev pub decides : Matcher → PostingsRow → Bool
decides m row =
    bytes_eq row.name m.name
    && (if is_accepted m.condition [] then not (is_accepted m.condition row.value) else is_accepted m.condition row.value)

-- the rows whose lists are read for a matcher, in the table's order; none where an external label has its name
abbrev pub deciding : List Label → List PostingsRow → Matcher → List PostingsRow
deciding external rows m = if is_some (value_of external m.name) then [] else filter (decides m) rows

-- the rows whose lists are read: the first one, and then, matcher by matcher, those that decide what it takes
unfoldable pub rows_read : List Label → List PostingsRow → List Matcher → List PostingsRow
rows_read external rows selector = take 1 rows ++ flat_map (deciding external rows) selector

-- ---- what they are in an index of a list of series

-- These are exactly the numbers of the listed series whose final labels match.
pub record AreMatching (listed : List (ℕ × IndexSeries)) (external : List Label) (replicas : List (List ℕ)) (selector : List Matcher) (numbers : List ℕ) : Type 0 where
  pub only : (number : ℕ) → Contains numbers number → (series : IndexSeries) × Contains listed (number, series) × IsTrue (is_match selector (final_of series.labels external replicas))
  pub all : (number : ℕ) (series : IndexSeries) → Contains listed (number, series) → IsTrue (is_match selector (final_of series.labels external replicas)) → Contains numbers number
