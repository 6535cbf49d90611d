-- The label indices of an index and their table, apart from reading and writing: of each label name the values that it has.
use Rattle.std.specs.Prelude.{◌≡◌, ℕ, List, map, slice_get, unwrap_or}
use Rattle.std.specs.List.{Contains}
use Rattle.std.specs.Ordering.{nat_cmp}
use Rattle.index_parts.specs.declared.toc_reading.Toc.{Toc}
use Rattle.index_parts.specs.Turns.{InOrder}
use Rattle.index_parts.specs.Contents.{IsToc}
use Rattle.index_parts.specs.Symbols.{IsSymbols}
use Rattle.base.specs.Order.{ComesAfter}
use Rattle.label_sets.specs.Labels.{compare_texts}
use Rattle.index_parts.specs.LabelIndices.{IsLabelIndex, IsLabelOffsets}
use Rattle.index_parts.specs.declared.index_series.IndexSeries.{IndexSeries}
use Rattle.index_parts.specs.IndexFile.{StandFor}

-- some series has this value under this name
abbrev pub HasValue : List IndexSeries → List ℕ → List ℕ → Type 0
HasValue list name value = (series : IndexSeries) × Contains list series × Contains series.labels (record { name = name; value = value })

-- At a place stands the label index of a name: the symbol numbers, ascending, of exactly the values that the name has.
pub record IsLabelIndexOf (index : List ℕ) (symbols : List (List ℕ)) (list : List IndexSeries) (name : List ℕ) (place : ℕ) : Type 0 where
  pub numbers : List ℕ
  pub values : List (List ℕ)
  pub stands : IsLabelIndex index place numbers
  pub ascend : InOrder (ComesAfter nat_cmp) numbers
  pub values_are : StandFor symbols numbers values
  pub only : (value : List ℕ) → Contains values value → HasValue list name value
  pub all : (value : List ℕ) → HasValue list name value → Contains values value

-- The bytes hold label indices of these series: a table of exactly the names that their labels have, ascending, each with
-- the place of its label index. The table of contents names the table, and the first label index, or 0 where there is none.
pub record HasLabelIndices (index : List ℕ) (list : List IndexSeries) : Type 0 where
  pub toc : Toc
  pub symbols : List (List ℕ)
  pub rows : List (List ℕ × ℕ)
  pub toc_is : IsToc index toc
  pub symbols_are : IsSymbols index toc.symbols symbols
  pub rows_are : IsLabelOffsets index toc.label_offsets rows
  pub ascend : InOrder (ComesAfter compare_texts) (map (λ row. row.0) rows)
  pub only : (name : List ℕ) → Contains (map (λ row. row.0) rows) name → (value : List ℕ) × HasValue list name value
  pub all : (name value : List ℕ) → HasValue list name value → Contains (map (λ row. row.0) rows) name
  pub indices : (name : List ℕ) (place : ℕ) → Contains rows (name, place) → IsLabelIndexOf index symbols list name place
  pub first : toc.label_indices ≡ unwrap_or (slice_get (map (λ row. row.1) rows) 0) 0
