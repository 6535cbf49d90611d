-- The row that the search finds is the first of its name and value.
use Rattle.std.proofs.Common.{◌≡◌, ◌≢◌, ℕ, zero, suc, true, false, List, [], ◌∷◌, Some, None, Result, Ok, Err, refl, sym, ap, ◌∙◌, arith, inl, inr}
use Rattle.std.specs.Prelude.{slice_get, find, IfSome, IfOk, IfErr}
use Rattle.std.specs.Result.{result_ok}
use Rattle.std.specs.List.{filter}
use Rattle.std.specs.Str.{bytes_eq}
use Rattle.std.specs.declared.cmp.Ordering.TheVariants.{Less, Equal}
use Rattle.std.proofs.lemmas.Cmp.{tied_itself}
use Rattle.std.specs.Cmp.Lexicographic.{bytes_decides}
use Rattle.std.specs.List.Sorted.{IsStrictlySortedBy}
use Rattle.std.proofs.lemmas.Bool.{and_parts, cases_lt}
use Rattle.std.proofs.lemmas.Option.{same_Some}
use Rattle.std.proofs.lemmas.Map.Keys.{sorted_tail}
use Rattle.base.proofs.Order.{Less-at_places}
use Rattle.base.proofs.Bools.{bytes_eq-itself}
use Rattle.label_sets.proofs.LabelValues.{by_bool}
use Rattle.index_parts.specs.declared.postings_row.PostingsRow.{PostingsRow}
use Rattle.index_parts.specs.Rows.{compare_rows}
use Rattle.index_parts.specs.RowOrder.{compare_row, IsRowAt, StandsAt, IsAlone}
use Rattle.index_parts.specs.Parts.{Part, list_in}
use Rattle.base.specs.Reading.{Gives, refused_as}
use Rattle.index_v2.specs.declared.refusal.IndexRefusal.{IndexRefusal}
use Rattle.index_v2.specs.declared.refusal.IndexRefusal.TheVariants.{NoMemory}
use Rattle.index_v2.specs.Opening.{refused_in}
use Rattle.index_v2.specs.PostingsLists.{is_row_of, row_of, list_of}
use Rattle.index_parts.proofs.RowPlaces.{rows_total}

row_test : (name value : List ℕ) (row : PostingsRow) → row.name ≡ name → row.value ≡ value → is_row_of name value row ≡ true
row_test _ _ _ n v = rw (n, v, bytes_eq-itself, bytes_eq-itself) refl

equal_key : (name value : List ℕ) (row : PostingsRow) → is_row_of name value row ≡ true → compare_row row name value ≡ Equal
equal_key name value row e =
    let b = and_parts (bytes_eq row.name name) (bytes_eq row.value value) e in
    let n : row.name ≡ name = (bytes_decides row.name name).0 b.0 in
    let v : row.value ≡ value = (bytes_decides row.value value).0 b.1 in
    rw (← n, ← v) (tied_itself rows_total row)

not_row : (name value : List ℕ) (row : PostingsRow) → compare_row row name value ≢ Equal → is_row_of name value row ≡ false
not_row name value row other = by_bool (is_row_of name value row) (λ yes. absurd (other (equal_key name value row yes))) (λ no. no)

find_none : (name value : List ℕ) (rows : List PostingsRow) → ((k : ℕ) (row : PostingsRow) → slice_get rows k ≡ Some row → compare_row row name value ≢ Equal) → find (is_row_of name value) rows ≡ None
find_none name _ [] none = refl
find_none name value (row ∷ rows) none = rw (not_row name value row (none 0 row refl)) (find_none name value rows (λ k other at. none (suc k) other at))

pub row_absent : (rows : List PostingsRow) (name value : List ℕ) (place : ℕ) → StandsAt rows name value place → row_of rows name value ≡ None
unfolding row_of
row_absent rows _ _ place stands = find_none _ _ rows (λ k row at e.
    elim (cases_lt k place) [
      | inl below ↦ let less = stands.below k row below at in absurd cc
      | inr above ↦ let greater = stands.above k row above at in absurd cc
    ])

-- a row before the row of a name and a value is not that row
before_key : (name value : List ℕ) (first row : PostingsRow) → compare_rows first row ≡ Less → is_row_of name value row ≡ true → compare_row first name value ≢ Equal
before_key name value first row less is e =
    let b = and_parts (bytes_eq row.name name) (bytes_eq row.value value) is in
    let n : row.name ≡ name = (bytes_decides row.name name).0 b.0 in
    let v : row.value ≡ value = (bytes_decides row.value value).0 b.1 in
    let same : compare_rows first row ≡ compare_row first name value = rw (n, v) refl in
    cc

find_some : (name value : List ℕ) (rows : List PostingsRow) (place : ℕ) (row : PostingsRow) → IsStrictlySortedBy compare_rows rows → slice_get rows place ≡ Some row → is_row_of name value row ≡ true → find (is_row_of name value) rows ≡ Some row
find_some _ _ [] _ _ ascend at is = absurd cc
find_some name value (first ∷ rows) zero row ascend at is = let same : first ≡ row = cc in rw (ap (is_row_of name value) same, is, same) refl
find_some name value (first ∷ rows) (suc place) row ascend at is =
    let less = Less-at_places compare_rows (first ∷ rows) 0 (suc place) first row ascend (omega arith) refl at in
    rw (not_row name value first (before_key name value first row less is)) (find_some _ _ _ _ _ (sorted_tail compare_rows _ _ ascend) at is)

pub row_found : (rows : List PostingsRow) (name value : List ℕ) (place : ℕ) (row : PostingsRow) → IsStrictlySortedBy compare_rows rows → IsRowAt rows name value place → slice_get rows place ≡ Some row → row_of rows name value ≡ Some row
unfolding row_of
row_found _ name value _ row ascend is at =
    let same : is.row ≡ row = same_Some _ _ (sym is.stands ∙ at) in
    find_some _ _ _ _ _ ascend at (row_test _ _ row (ap (λ r. r.name) (sym same) ∙ is.name_is) (ap (λ r. r.value) (sym same) ∙ is.value_is))

-- ---- the list of the row that was found

pub list_found : {X : Type 0} (view : X → List ℕ) (r : Result X IndexRefusal) (part : Part) (rows : List PostingsRow) (name value : List ℕ) (place : ℕ) (row : PostingsRow) → IsStrictlySortedBy compare_rows rows → IsRowAt rows name value place → slice_get rows place ≡ Some row
    → Gives NoMemory view r (refused_as (refused_in 5) (list_in part row.offset)) → Gives NoMemory view r (list_of part (row_of rows name value))
list_found view r _ rows name value place row ascend is at given = rw (row_found rows name value place row ascend is at) given

pub list_absent : (part : Part) (rows : List PostingsRow) (name value : List ℕ) (place : ℕ) → StandsAt rows name value place → list_of part (row_of rows name value) ≡ Ok []
list_absent _ rows name value place stands = rw (row_absent rows name value place stands) refl

-- ---- there is one such row at most

filter_none : (name value : List ℕ) (rows : List PostingsRow) → ((k : ℕ) (row : PostingsRow) → slice_get rows k ≡ Some row → is_row_of name value row ≡ false) → filter (is_row_of name value) rows ≡ []
filter_none _ _ [] none = refl
filter_none name value (row ∷ rows) none = rw (none 0 row refl) (filter_none name value rows (λ k other at. none (suc k) other at))

pub rows_absent : (rows : List PostingsRow) (name value : List ℕ) (place : ℕ) → StandsAt rows name value place → filter (is_row_of name value) rows ≡ []
rows_absent _ name value place stands = filter_none _ _ _ (λ k row at. not_row name value row (λ e.
    elim (cases_lt k place) [
      | inl below ↦ let less = stands.below k row below at in absurd cc
      | inr above ↦ let greater = stands.above k row above at in absurd cc
    ]))

-- behind the row of a name and a value there is no other
none_behind : (name value : List ℕ) (first : PostingsRow) (rows : List PostingsRow) → IsStrictlySortedBy compare_rows (first ∷ rows) → is_row_of name value first ≡ true → (k : ℕ) (row : PostingsRow) → slice_get rows k ≡ Some row → is_row_of name value row ≡ false
none_behind name value first rows ascend is k row at =
    let less = Less-at_places compare_rows _ 0 (suc k) first row ascend (omega arith) refl at in
    by_bool (is_row_of name value row) (λ yes. absurd (before_key name value first row less yes (equal_key name value first is))) (λ no. no)

filter_one : (name value : List ℕ) (rows : List PostingsRow) (place : ℕ) (row : PostingsRow) → IsStrictlySortedBy compare_rows rows → slice_get rows place ≡ Some row → is_row_of name value row ≡ true → filter (is_row_of name value) rows ≡ row ∷ []
filter_one name value [] place row ascend at is = absurd cc
filter_one name value (first ∷ rows) zero row ascend at is =
    let same : first ≡ row = cc in
    let here : is_row_of name value first ≡ true = ap (is_row_of name value) same ∙ is in
    rw here (ap (λ (xs : List PostingsRow). first ∷ xs) (filter_none name value rows (none_behind _ _ _ _ ascend here)) ∙ ap (λ r. r ∷ []) same)
filter_one name value (first ∷ rows) (suc place) row ascend at is =
    let less = Less-at_places compare_rows (first ∷ rows) 0 (suc place) first row ascend (omega arith) refl at in
    rw (not_row name value first (before_key name value first row less is)) (filter_one _ _ _ _ _ (sorted_tail compare_rows _ _ ascend) at is)

pub row_alone : (rows : List PostingsRow) (name value : List ℕ) (place : ℕ) → IsStrictlySortedBy compare_rows rows → IsRowAt rows name value place → IsAlone (is_row_of name value) rows place
row_alone rows _ _ _ ascend is = record {
  row = is.row;
  stands = is.stands;
  only = filter_one _ _ _ _ _ ascend is.stands (row_test _ _ is.row is.name_is is.value_is);
}

pub found_alone : (r : Result ℕ ℕ) (rows : List PostingsRow) (name value : List ℕ) → IsStrictlySortedBy compare_rows rows → IfOk r (λ place. IsRowAt rows name value place) → IfSome (result_ok r) (λ place. IsAlone (is_row_of name value) rows place)
found_alone (Ok place) rows name value ascend is = row_alone _ _ _ _ ascend is
found_alone (Err place) _ _ _ ascend is = tt

pub found_none : (r : Result ℕ ℕ) (rows : List PostingsRow) (name value : List ℕ) → IfErr r (λ place. StandsAt rows name value place) → result_ok r ≡ None → filter (is_row_of name value) rows ≡ []
found_none (Ok place) _ _ _ stands none = absurd cc
found_none (Err place) _ _ _ stands none = rows_absent _ _ _ _ stands
