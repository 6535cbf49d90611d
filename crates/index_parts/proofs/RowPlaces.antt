-- The search for a row in a postings table whose rows ascend.
use Rattle.std.proofs.Common.{◌≡◌, ℕ, suc, ◌+◌, ◌^◌, ◌<◌, ◌≤◌, List, [], ◌∷◌, length, Some, None, sym, ap, ◌∙◌, arith, inl, inr}
use Rattle.std.specs.Prelude.{slice_get}
use Rattle.std.specs.declared.cmp.Ordering.TheVariants.{Less, Equal, Greater}
use Rattle.std.specs.Ordering.{ordering_reverse}
use Rattle.std.specs.List.{AllByRecursion}
use Rattle.std.specs.List.Sorted.{IsStrictlySortedBy}
use Rattle.std.specs.Cmp.{IsTotalOrder}
use Rattle.std.specs.Cmp.Lexicographic.{on_texts}
use Rattle.std.proofs.lemmas.Cmp.{then_total}
use Rattle.std.proofs.lemmas.Bool.{cases_lt}
use Rattle.std.proofs.lemmas.Option.{same_Some, slice_get_past}
use Rattle.base.proofs.Lists.{AllByRecursion-weaker}
use Rattle.base.proofs.Order.{Less-at_places}
use Rattle.base.proofs.Bools.{Equal-from_then}
use Rattle.label_sets.proofs.LabelValues.{same_text}
use Rattle.index_parts.specs.declared.postings_row.PostingsRow.{PostingsRow}
use Rattle.index_parts.specs.Turns.{AreInTurn}
use Rattle.index_parts.specs.Rows.{compare_rows, IsNextRow, IsPostingsTable}
use Rattle.index_parts.specs.RowOrder.{compare_row, IsRowAt, StandsAt}

pub rows_total : IsTotalOrder compare_rows
rows_total = then_total (on_texts (λ row. row.name)) (on_texts (λ row. row.value))

-- what lies below a place is less, and what lies above another is greater
pub record IsBetween (rows : List PostingsRow) (name value : List ℕ) (low high : ℕ) : Type 0 where
  pub ordered : low ≤ high
  pub within : high ≤ length rows
  pub below : (k : ℕ) (row : PostingsRow) → k < low → slice_get rows k ≡ Some row → compare_row row name value ≡ Less
  pub above : (k : ℕ) (row : PostingsRow) → high ≤ k → slice_get rows k ≡ Some row → compare_row row name value ≡ Greater

no_row : (rows : List PostingsRow) (n k : ℕ) (row : PostingsRow) → n ≡ length rows → n ≤ k → slice_get rows k ≡ Some row → ⊥
no_row rows n k _ e le h = let past = slice_get_past rows k (omega arith) in cc

reversed : (a b : PostingsRow) → compare_rows a b ≡ Less → compare_rows b a ≡ Greater
reversed a b e = rows_total.antisymm b a ∙ ap ordering_reverse e

unreversed : (a b : PostingsRow) → compare_rows a b ≡ Greater → compare_rows b a ≡ Less
unreversed a b e = rows_total.antisymm b a ∙ ap ordering_reverse e

key : List ℕ → List ℕ → PostingsRow
key name value = record { name = name; value = value; offset = 0 }

less_below : (rows : List PostingsRow) (name value : List ℕ) (middle k : ℕ) (here row : PostingsRow) → IsStrictlySortedBy compare_rows rows → slice_get rows middle ≡ Some here → compare_row here name value ≡ Less → k < middle + 1 → slice_get rows k ≡ Some row → compare_row row name value ≡ Less
unfolding key
less_below rows name value middle k here row ascend at less lt stands =
    elim (cases_lt k middle) [
      | inl before ↦ rows_total.trans row here (key name value) (Less-at_places compare_rows _ k _ _ _ ascend before stands at) less
      | inr other ↦
          let same_place : k ≡ middle = omega arith in
          let same = same_Some _ _ (sym stands ∙ ap (λ i. slice_get rows i) same_place ∙ at) in
          ap (λ r. compare_row r name value) same ∙ less
    ]

pub greater_above : (rows : List PostingsRow) (name value : List ℕ) (middle k : ℕ) (here row : PostingsRow) → IsStrictlySortedBy compare_rows rows → slice_get rows middle ≡ Some here → compare_row here name value ≡ Greater → middle ≤ k → slice_get rows k ≡ Some row → compare_row row name value ≡ Greater
unfolding key
greater_above rows name value middle k here row ascend at greater le stands =
    elim (cases_lt middle k) [
      | inl behind ↦ reversed (key name value) row (rows_total.trans (key name value) here row (unreversed here (key name value) greater) (Less-at_places compare_rows _ _ k _ _ ascend behind at stands))
      | inr other ↦
          let same_place : k ≡ middle = omega arith in
          let same = same_Some _ _ (sym stands ∙ ap (λ i. slice_get rows i) same_place ∙ at) in
          ap (λ r. compare_row r name value) same ∙ greater
    ]

pub between_raised : (rows : List PostingsRow) (name value : List ℕ) (low high middle new : ℕ) (here : PostingsRow) → IsStrictlySortedBy compare_rows rows → IsBetween rows name value low high → middle < high → slice_get rows middle ≡ Some here → compare_row here name value ≡ Less → new ≡ middle + 1 → IsBetween rows name value new high
between_raised rows name value _ _ middle _ here ascend b lt at less e = record {
  ordered = omega arith;
  within = b.within;
  below = λ k row before stands. less_below rows name value middle k here row ascend at less (omega arith) stands;
  above = b.above;
}

pub between_lowered : (rows : List PostingsRow) (name value : List ℕ) (low high middle : ℕ) (here : PostingsRow) → IsStrictlySortedBy compare_rows rows → IsBetween rows name value low high → low ≤ middle → middle < high → slice_get rows middle ≡ Some here → compare_row here name value ≡ Greater → IsBetween rows name value low middle
between_lowered rows name value low _ middle here ascend b le lt at greater = let w = b.within in record {
  ordered = le;
  within = omega arith;
  below = b.below;
  above = λ k row behind stands. greater_above rows name value middle k here row ascend at greater behind stands;
}

pub equal_texts : (row : PostingsRow) (name value : List ℕ) → compare_row row name value ≡ Equal → (row.name ≡ name) × (row.value ≡ value)
equal_texts _ _ _ e =
    let parts = Equal-from_then _ _ e in
    (same_text _ _ parts.0, same_text _ _ parts.1)

pub equal_row : (rows : List PostingsRow) (name value : List ℕ) (place : ℕ) (row : PostingsRow) → slice_get rows place ≡ Some row → compare_row row name value ≡ Equal → IsRowAt rows name value place
equal_row _ _ _ _ row stands e =
    let texts = equal_texts row _ _ e in
    record { row = row; stands = stands; name_is = texts.0; value_is = texts.1 }

-- ---- without the first row

pub stands_behind : (first : PostingsRow) (rows : List PostingsRow) (name value : List ℕ) (place : ℕ) → StandsAt (first ∷ rows) name value (suc place) → StandsAt rows name value place
stands_behind _ _ _ _ _ stands = let w = stands.within in record {
  within = omega arith;
  below = λ k row lt at. stands.below (suc k) row (omega arith) at;
  above = λ k row le at. stands.above (suc k) row (omega arith) at;
}

-- ---- rows of a table that is in the grammar ascend

rows_behind : (before : PostingsRow) (text : List ℕ) (rows : List PostingsRow) → AreInTurn IsNextRow (Some before) text rows → AllByRecursion (λ row. compare_rows before row ≡ Less) rows × IsStrictlySortedBy compare_rows rows
unfolding IsStrictlySortedBy
rows_behind _ _ [] are = (tt, tt)
rows_behind before _ (r ∷ rows) are =
    let others = rows_behind r are.1 rows are.3 in
    ((are.2.ascends, AllByRecursion-weaker _ _ (λ x behind. rows_total.trans before r x are.2.ascends behind) _ others.0), others)

ascending : (text : List ℕ) (rows : List PostingsRow) → AreInTurn IsNextRow None text rows → IsStrictlySortedBy compare_rows rows
unfolding IsStrictlySortedBy
ascending _ [] are = tt
ascending _ (r ∷ rows) are = rows_behind r _ _ are.3

pub table_ascends : (index : List ℕ) (at : ℕ) (rows : List PostingsRow) → IsPostingsTable index at rows → IsStrictlySortedBy compare_rows rows
table_ascends _ _ _ is = ascending _ _ is.texts_are

pub no_rows_ascend : IsStrictlySortedBy compare_rows []
unfolding IsStrictlySortedBy
no_rows_ascend = tt

pub no_row_stands : (name value : List ℕ) → StandsAt [] name value 0
no_row_stands _ _ = record { within = omega arith; below = λ k row lt at. absurd cc; above = λ k row le at. absurd cc }

pub table_small : (index : List ℕ) (at : ℕ) (rows : List PostingsRow) → IsPostingsTable index at rows → length rows < 2 ^ 32
table_small _ _ _ is = is.count_is.fits
