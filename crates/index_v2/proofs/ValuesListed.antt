-- The values of the rows of a name.
use Rattle.std.proofs.Common.{◌≡◌, ◌≢◌, ℕ, zero, suc, ◌+◌, ◌<◌, ◌≤◌, Bool, true, false, List, [], ◌∷◌, ◌++◌, length, map, drop, Some, None, refl, sym, ap, ◌∙◌, append_assoc, arith, inl, inr}
use Rattle.std.specs.Prelude.{slice_get, ◌==◌, not}
use Rattle.std.specs.List.Sorted.{IsStrictlySortedBy}
use Rattle.std.specs.Cmp.Lexicographic.{bytes_decides}
use Rattle.std.specs.List.{filter}
use Rattle.std.specs.Str.{bytes_eq}
use Rattle.std.specs.declared.cmp.Ordering.TheVariants.{Less}
use Rattle.std.proofs.lemmas.Bool.{cases_lt, not-false}
use Rattle.std.proofs.lemmas.List.{append-nil}
use Rattle.std.proofs.lemmas.Option.{slice_get_cases}
use Rattle.base.proofs.Order.{Less-at_places}
use Rattle.base.proofs.Bools.{bytes_eq-itself, Less-from_then, not_negated}
use Rattle.label_sets.specs.Labels.{compare_texts}
use Rattle.label_sets.proofs.LabelValues.{bytes_eq_differs, same_text}
use Rattle.index_parts.specs.declared.postings_row.PostingsRow.{PostingsRow}
use Rattle.index_parts.specs.Rows.{compare_rows}
use Rattle.index_parts.specs.RowOrder.{BeginsAt}
use Rattle.index_parts.proofs.RowsBegin.{equal_not_less, same_row}
use Rattle.index_v2.specs.PostingsLists.{values_of}
use Rattle.index_v2.proofs.WholeLoops.{drop_at}

-- ---- filters

abbrev pub is_named : List ℕ → PostingsRow → Bool
is_named name row = bytes_eq row.name name

abbrev pub value_in : PostingsRow → List ℕ
value_in row = row.value

not_named : (rows : List PostingsRow) (name : List ℕ) → ((k : ℕ) (row : PostingsRow) → slice_get rows k ≡ Some row → row.name ≢ name) → filter (is_named name) rows ≡ []
not_named [] _ none = refl
not_named (row ∷ rows) name none = rw (bytes_eq_differs row.name name (none 0 row refl)) (not_named rows _ (λ k other at. none (suc k) other at))

passed : (n : ℕ) (rows : List PostingsRow) (name : List ℕ) → ((k : ℕ) (row : PostingsRow) → k < n → slice_get rows k ≡ Some row → row.name ≢ name) → filter (is_named name) rows ≡ filter (is_named name) (drop n rows)
passed zero _ _ none = refl
passed (suc n) [] _ none = refl
passed (suc n) (row ∷ rows) name none = rw (bytes_eq_differs row.name name (none 0 row (omega arith) refl)) (passed n _ _ (λ k other lt at. none (suc k) other (omega arith) at))

slice_get-drop : (n k m : ℕ) (rows : List PostingsRow) → m ≡ n + k → slice_get (drop n rows) k ≡ slice_get rows m
slice_get-drop zero k m rows e = let same : k ≡ m = omega arith in ap (λ i. slice_get rows i) same
slice_get-drop (suc n) k m [] e = refl
slice_get-drop (suc n) k zero (row ∷ rows) e = absurd (omega arith)
slice_get-drop (suc n) k (suc m) (row ∷ rows) e = slice_get-drop n k m _ (omega arith)

-- what was listed of the front, and the values that are left
pub record AreListed (rows : List PostingsRow) (name : List ℕ) (first place : ℕ) (values : List (List ℕ)) : Type 0 where
  pub from : first ≤ place
  pub whole : values_of rows name ≡ values ++ map value_in (filter (is_named name) (drop place rows))

pub differs : (one other : List ℕ) → compare_texts one other ≡ Less → one ≢ other
differs _ other less same = equal_not_less other (ap (λ n. compare_texts n other) (sym same) ∙ less)

pub listed_start : (rows : List PostingsRow) (name : List ℕ) (first : ℕ) (values : List (List ℕ)) → values ≡ [] → (length name == 0) ≡ false → BeginsAt rows name first → AreListed rows name first first values
unfolding values_of
listed_start rows name first _ none some begins = rw none (record {
  from = omega arith;
  whole = rw some (ap (map value_in) (passed _ _ _ (λ k row lt at. differs row.name name (begins.below k row lt at))));
})

pub listed_more : (rows : List PostingsRow) (name : List ℕ) (first place : ℕ) (values new : List (List ℕ)) (row : PostingsRow) (value : List ℕ) → AreListed rows name first place values → slice_get rows place ≡ Some row → row.name ≡ name → value ≡ row.value → new ≡ values ++ value ∷ [] → AreListed rows name first (place + 1) new
listed_more rows name first place values _ row value listed at named v e =
    let from = listed.from in
    let test : bytes_eq row.name name ≡ true = rw named (bytes_eq-itself name) in
    let step : map value_in (filter (is_named name) (drop place rows)) ≡ row.value ∷ map value_in (filter (is_named name) (drop (place + 1) rows)) = rw (drop_at rows place row at, test) refl in
    rw (e, v) (record {
      from = omega arith;
      whole = listed.whole ∙ ap (λ xs. values ++ xs) step ∙ sym (append_assoc values (row.value ∷ []) (map value_in (filter (is_named name) (drop (place + 1) rows))));
    })

pub behind : (rows : List PostingsRow) (name : List ℕ) (place k : ℕ) (first row : PostingsRow) → IsStrictlySortedBy compare_rows rows → slice_get rows place ≡ Some first → compare_texts first.name name ≢ Less → first.name ≢ name → place ≤ k → slice_get rows k ≡ Some row → row.name ≢ name
behind _ name place k first _ ascend at not_below other le there same =
    elim (cases_lt place k) [
      | inl lt ↦ elim (Less-from_then _ _ (Less-at_places compare_rows _ _ k _ _ ascend lt at there)) [
        | inl less ↦ not_below (ap (λ n. compare_texts first.name n) (sym same) ∙ less)
        | inr p ↦ other (same_text _ _ p.0 ∙ same)
      ]
      | inr ge ↦ other (ap (λ r. r.name) (sym (same_row _ _ k _ _ (omega arith) there at)) ∙ same)
    ]

pub listed_stop : (rows : List PostingsRow) (name : List ℕ) (first place : ℕ) (values : List (List ℕ)) (row : PostingsRow) → IsStrictlySortedBy compare_rows rows → BeginsAt rows name first → AreListed rows name first place values → slice_get rows place ≡ Some row → row.name ≢ name → values_of rows name ≡ values
listed_stop rows name _ place values row ascend begins listed at other =
    listed.whole ∙ ap (λ xs. values ++ map value_in xs) (not_named _ _ (λ k r there. behind rows name place (place + k) row r ascend at (begins.above place row listed.from at) other (omega arith) (sym (slice_get-drop _ k _ _ refl) ∙ there))) ∙ append-nil values

pub no_values : (rows : List PostingsRow) (name : List ℕ) → (length name == 0) ≡ true → values_of rows name ≡ []
unfolding values_of
no_values _ _ none = rw none refl

pub listed_none : (rows : List PostingsRow) (name : List ℕ) (place : ℕ) {P : Type 0} → place < length rows → slice_get rows place ≡ None → P
listed_none rows _ place lt none =
    elim (slice_get_cases rows place).1 [
      | inl p ↦ let some = p.2 in absurd cc
      | inr p ↦ let past = p.0 in absurd (omega arith)
    ]

pub other_name : (x : Bool) (one other : List ℕ) → x ≡ not (bytes_eq one other) → x ≡ true → one ≢ other
other_name x one other e differ same = let equal : bytes_eq one other ≡ true = rw same (bytes_eq-itself other) in not_negated _ (sym e ∙ differ) equal

pub same_name : (x : Bool) (one other : List ℕ) → x ≡ not (bytes_eq one other) → x ≡ false → one ≡ other
same_name x one other e equal = (bytes_decides one other).0 (not-false _ (sym e ∙ equal))
