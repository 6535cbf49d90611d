-- Where the rows of a name begin.
use Rattle.std.proofs.Common.{◌≡◌, ◌≢◌, ℕ, List, [], ◌∷◌, Some, refl, sym, ap, ◌∙◌, arith, inl, inr}
use Rattle.std.specs.Prelude.{slice_get}
use Rattle.std.specs.List.Sorted.{IsStrictlySortedBy}
use Rattle.std.specs.declared.cmp.Ordering.TheVariants.{Less, Greater}
use Rattle.std.specs.Ordering.{ordering_then}
use Rattle.std.proofs.lemmas.Bool.{cases_lt}
use Rattle.std.proofs.lemmas.Option.{same_Some, slice_get_within}
use Rattle.base.proofs.Order.{Less-at_places}
use Rattle.base.proofs.Bools.{Less-from_then}
use Rattle.label_sets.specs.Labels.{compare_texts}
use Rattle.label_sets.proofs.LabelValues.{compare_self, before_trans, same_text}
use Rattle.index_parts.specs.declared.postings_row.PostingsRow.{PostingsRow}
use Rattle.index_parts.specs.Rows.{compare_rows}
use Rattle.index_parts.specs.RowOrder.{compare_row, IsRowAt, StandsAt, BeginsAt}

nothing_below : (value : List ℕ) → compare_texts value [] ≢ Less
nothing_below [] e = cc
nothing_below (v ∷ value) e = cc

less_name : (row : PostingsRow) (name : List ℕ) → compare_row row name [] ≡ Less → compare_texts row.name name ≡ Less
less_name _ _ e =
    elim (Less-from_then _ _ e) [
      | inl less ↦ less
      | inr p ↦ absurd (nothing_below _ p.1)
    ]

greater_name : (row : PostingsRow) (name : List ℕ) → compare_row row name [] ≡ Greater → compare_texts row.name name ≢ Less
greater_name row name e less = let no : ordering_then (compare_texts row.name name) (compare_texts row.value []) ≡ Less = rw less refl in cc

pub begins_missing : (rows : List PostingsRow) (name : List ℕ) (place : ℕ) → StandsAt rows name [] place → BeginsAt rows name place
begins_missing _ name _ stands = record {
  within = stands.within;
  below = λ k row lt at. less_name row name (stands.below k row lt at);
  above = λ k row le at. greater_name row name (stands.above k row le at);
}

-- what stands behind a row of a name has no lesser name
not_less : (one other : PostingsRow) (name : List ℕ) → compare_rows one other ≡ Less → compare_texts one.name name ≢ Less → compare_texts other.name name ≢ Less
not_less one other name less not_here lesser =
    elim (Less-from_then _ (compare_texts one.value other.value) less) [
      | inl before ↦ not_here (before_trans one.name _ _ before lesser)
      | inr p ↦ let same = same_text _ _ p.0 in not_here (ap (λ n. compare_texts n name) same ∙ lesser)
    ]

pub equal_not_less : (name : List ℕ) → compare_texts name name ≢ Less
equal_not_less name e = let same = compare_self name in cc

pub same_compare : (row other : PostingsRow) (name value : List ℕ) → other.name ≡ name → other.value ≡ value → compare_row row name value ≡ compare_rows row other
same_compare _ _ _ _ n v = rw (← n, ← v) refl

pub same_row : (rows : List PostingsRow) (place k : ℕ) (one other : PostingsRow) → k ≡ place → slice_get rows k ≡ Some one → slice_get rows place ≡ Some other → one ≡ other
same_row rows _ k _ _ e a b = same_Some _ _ (sym a ∙ ap (λ i. slice_get rows i) e ∙ b)

pub begins_found : (rows : List PostingsRow) (name : List ℕ) (place : ℕ) → IsStrictlySortedBy compare_rows rows → IsRowAt rows name [] place → BeginsAt rows name place
begins_found rows name place ascend is = record {
  within = let lt = slice_get_within rows place is.row is.stands in omega arith;
  below = λ k row lt at. less_name row name (same_compare row is.row _ _ is.name_is is.value_is ∙ Less-at_places compare_rows _ k _ _ _ ascend lt at is.stands);
  above = λ k row le at. elim (cases_lt place k) [
    | inl lt ↦ not_less is.row row name (Less-at_places compare_rows _ _ k _ _ ascend lt is.stands at) (λ less. equal_not_less name (ap (λ n. compare_texts n name) (sym is.name_is) ∙ less))
    | inr ge ↦ λ less. equal_not_less name (ap (λ n. compare_texts n name) (sym (ap (λ r. r.name) (same_row _ _ k _ _ (omega arith) at is.stands) ∙ is.name_is)) ∙ less)
  ];
}
