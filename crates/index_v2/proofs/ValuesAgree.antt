-- The values under a name, in an index of a list of series.
use Rattle.std.proofs.Common.{◌≡◌, ◌≢◌, ℕ, zero, suc, true, List, [], ◌∷◌, length, map, Some, refl, sym, ap, subst, ◌∙◌, arith, inl, inr}
use Rattle.std.specs.Prelude.{slice_get, ◌==◌}
use Rattle.std.specs.Cmp.Lexicographic.{bytes_decides}
use Rattle.std.specs.List.{filter, Contains, AllByRecursion}
use Rattle.std.specs.List.Sorted.{IsStrictlySortedBy}
use Rattle.std.specs.Str.{bytes_eq}
use Rattle.std.specs.declared.cmp.Ordering.TheVariants.{Less}
use Rattle.std.proofs.lemmas.List.Elements.{filter_passes, recursion_from_All}
use Rattle.std.proofs.lemmas.List.Kept.{IsStrictlySortedBy-filter}
use Rattle.std.proofs.lemmas.Option.{same_Some}
use Rattle.base.proofs.Membership.{place_of_member, of_filter, into_filter, member_passes, of_map, into_map}
use Rattle.base.proofs.Bools.{bytes_eq-itself, Less-from_then}
use Rattle.base.proofs.Lists.{some-from_length}
use Rattle.label_sets.specs.declared.label.Label.{Label}
use Rattle.label_sets.specs.Labels.{compare_texts, IsLabelSet}
use Rattle.label_sets.proofs.LabelValues.{by_bool}
use Rattle.index_parts.specs.declared.postings_row.PostingsRow.{PostingsRow}
use Rattle.index_parts.specs.Rows.{compare_rows}
use Rattle.index_parts.specs.declared.index_series.IndexSeries.{IndexSeries}
use Rattle.index_parts.specs.IndexFile.{HasRow, IsIndex, AreValuesOf}
use Rattle.index_v2.specs.PostingsLists.{values_of}
use Rattle.index_v2.proofs.LabelsOwned.{some_bytes}
use Rattle.index_v2.proofs.RowsHeld.{held_ascends}
use Rattle.index_parts.proofs.RowsBegin.{equal_not_less}
use Rattle.index_v2.proofs.ValuesListed.{is_named, value_in, no_values}

-- ---- rows of a name

abbrev named_values : List PostingsRow → List ℕ → List (List ℕ)
named_values rows name = map value_in (filter (is_named name) rows)

values_named : (rows : List PostingsRow) (name : List ℕ) → name ≢ [] → values_of rows name ≡ named_values rows name
unfolding values_of
values_named _ _ some = rw (some_bytes) refl

value_only : (rows : List PostingsRow) (name value : List ℕ) → Contains (values_of rows name) value → (name ≢ []) × HasRow rows (record { name = name; value = value })
value_only rows name value has = by_bool {P = (name ≢ []) × HasRow rows (record { name = name; value = value })} (length name == 0)
    (λ empty. let none = subst (λ l. Contains l value) (no_values _ _ empty) has in absurd (omega arith))
    (λ long.
    let some = some-from_length name long in
    let has' = subst (λ l. Contains l value) (values_named _ _ some) has in
    let row = of_map _ _ _ has' in
    let test = member_passes (is_named name) rows _ row.1 in
    (some, (row.0, of_filter _ _ _ row.1, (bytes_decides row.0.name name).0 test, row.2)))

value_each : (rows : List PostingsRow) (name value : List ℕ) → name ≢ [] → HasRow rows (record { name = name; value = value }) → Contains (values_of rows name) value
value_each rows name value some has =
    let test = ap (λ n. bytes_eq n name) has.2 ∙ bytes_eq-itself name in
    let row = into_filter _ _ _ has.1 test in
    subst (λ l. Contains l value) (sym (values_named _ _ some)) (subst (Contains (named_values rows name)) has.3 (into_map _ _ _ row))

same_names : (one other : PostingsRow) → one.name ≡ other.name → compare_rows one other ≡ Less → compare_texts one.value other.value ≡ Less
same_names _ other same less = elim (Less-from_then _ _ less) [
  | inl before ↦ absurd (equal_not_less other.name (ap (λ n. compare_texts n other.name) (sym same) ∙ before))
  | inr p ↦ p.1
]

-- ---- values ascend

values_behind : (name : List ℕ) (row : PostingsRow) (rows : List PostingsRow) → row.name ≡ name → AllByRecursion (λ r. compare_rows row r ≡ Less) rows → AllByRecursion (λ r. is_named name r ≡ true) rows → AllByRecursion (λ v. compare_texts row.value v ≡ Less) (map value_in rows)
values_behind name row [] is behind named = tt
values_behind name row (r ∷ rows) is behind named = (same_names row r (is ∙ sym ((bytes_decides r.name name).0 named.0)) behind.0, values_behind name row rows is behind.1 named.1)

in_order : (name : List ℕ) (rows : List PostingsRow) → IsStrictlySortedBy compare_rows rows → AllByRecursion (λ r. is_named name r ≡ true) rows → IsStrictlySortedBy compare_texts (map value_in rows)
unfolding IsStrictlySortedBy
in_order name [] ascend named = tt
in_order name (row ∷ rows) ascend named = (values_behind _ row _ ((bytes_decides row.name name).0 named.0) ascend.0 named.1, in_order name rows ascend.1 named.1)

no_value : IsStrictlySortedBy compare_texts []
unfolding IsStrictlySortedBy
no_value = tt

values_ascend : (rows : List PostingsRow) (name : List ℕ) → IsStrictlySortedBy compare_rows rows → IsStrictlySortedBy compare_texts (values_of rows name)
values_ascend rows name ascend = by_bool {P = IsStrictlySortedBy compare_texts (values_of rows name)} (length name == 0)
    (λ empty. subst (IsStrictlySortedBy compare_texts) (sym (no_values rows _ empty)) no_value)
    (λ long.
    let named = recursion_from_All (λ r. is_named name r ≡ true) _ (filter_passes (is_named name) _) in
    subst (IsStrictlySortedBy compare_texts) (sym (values_named _ _ (some-from_length name long))) (in_order _ _ (IsStrictlySortedBy-filter _ _ _ ascend) named))

-- ---- in an index of a list

named_label : (labels : List Label) (place : ℕ) (label : Label) → IsLabelSet labels → slice_get labels place ≡ Some label → label.name ≢ []
named_label [] _ _ is at = absurd cc
named_label (l ∷ labels) zero _ is at = subst (λ m. m.name ≢ []) (same_Some l _ at) is.0
named_label (l ∷ labels) (suc place) label is at = named_label labels _ _ is.3 at

listed_values : (index : List ℕ) (list : List IndexSeries) (is : IsIndex index list) (name : List ℕ) → AreValuesOf is.opened.rows list name (values_of is.opened.rows name)
listed_values index _ is name = record {
  only = λ value has. value_only is.opened.rows name value has;
  each = λ value some has. value_each is.opened.rows name value some has;
  all = λ series value has labelled.
      let label : Label = record { name = name; value = value } in
      let has' : Contains (map (λ (one : ℕ × IndexSeries). one.1) is.listed) series = subst (λ (l : List IndexSeries). Contains l series) (sym is.list_is) has in
      let one = of_map _ _ _ has' in
      let its : Contains one.0.1.labels label = subst (λ s. Contains s.labels label) (sym one.2) labelled in
      let at = place_of_member _ _ its in
      let some = named_label _ _ _ (is.series_are.stand one.0.0 one.0.1 one.1).lawful at.1 in
      value_each _ _ _ some (is.complete one.0.0 one.0.1 one.1 label its);
  ascend = values_ascend _ _ (held_ascends _ _ _ is.is_opened.rows_are);
}

pub values_agree : (rows : List PostingsRow) (name : List ℕ) (values : List (List ℕ)) (index : List ℕ) (list : List IndexSeries) (is : IsIndex index list) → rows ≡ is.opened.rows → values ≡ values_of rows name → AreValuesOf rows list name values
values_agree rows name _ index list is same e =
    subst (AreValuesOf rows list name) (sym e) (subst (λ r. AreValuesOf r list name (values_of r name)) (sym same) (listed_values index _ is _))
