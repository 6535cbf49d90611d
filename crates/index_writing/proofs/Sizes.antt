-- How long the contents of sections are, at most.
use Rattle.std.proofs.Common.{ℕ, ◌+◌, ◌-◌, ◌^◌, ◌<◌, ◌≤◌, List, [], ◌∷◌, ◌++◌, length, zip, length-append, arith}
use Rattle.std.specs.Int.{w32, to_be_bytes}
use Rattle.std.specs.List.{flat_map, sum_by}
use Rattle.std.proofs.lemmas.List.Concat.{length-flat_map}
use Rattle.std.proofs.lemmas.List.Sums.{sum_by-cons, sum_by-le-sum_by}
use Rattle.wire_bytes.specs.Written.{uvarint_text}
use Rattle.wire_bytes.proofs.FixedLaws.{length-four_each}
use Rattle.wire_bytes.proofs.GroupTexts.{few_groups}
use Rattle.index_parts.specs.declared.postings_row.PostingsRow.{PostingsRow}
use Rattle.index_parts.specs.Framed.{text_field}
use Rattle.index_parts.specs.Lists.{list_content}
use Rattle.index_parts.specs.LabelIndices.{offset_text, label_index_content}
use Rattle.index_parts.specs.Rows.{row_text}

pub text_field_most : (text : List ℕ) → length (text_field text) ≤ 10 + length text
text_field_most text = omega (arith, few_groups 9 (length text), length-append (uvarint_text (length text)) text)

offset_most : (row : List ℕ × ℕ) → length (offset_text row) ≤ 21 + length row.0
offset_most row = omega (arith, text_field_most row.0, few_groups 9 row.1, length-append (text_field row.0) (uvarint_text row.1))

row_most : (row : PostingsRow) → length (row_text row) ≤ 31 + length row.name + length row.value
row_most row = omega (arith, text_field_most row.name, text_field_most row.value, few_groups 9 row.offset, length-append (text_field row.name ++ text_field row.value) (uvarint_text row.offset), length-append (text_field row.name) (text_field row.value))

list_most : {A : Type 0} (text_of : A → List ℕ) (most : A → ℕ) → ((x : A) → length (text_of x) ≤ most x) → (xs : List A) → length (list_content text_of xs) ≤ 4 + sum_by most xs
list_most text_of most one xs =
    omega (arith, length-flat_map text_of xs, sum_by-le-sum_by (λ x. length (text_of x)) most xs one)

-- what a caller shows who knows the lengths of the texts
pub symbols_small : (symbols : List (List ℕ)) → 4 + sum_by (λ text. 10 + length text) symbols < 2 ^ 32 → length (list_content text_field symbols) < 2 ^ 32
symbols_small symbols small = omega (arith, list_most text_field (λ text. 10 + length text) text_field_most symbols)

pub offsets_small : (rows : List (List ℕ × ℕ)) → 4 + sum_by (λ row. 21 + length row.0) rows < 2 ^ 32 → length (list_content offset_text rows) < 2 ^ 32
offsets_small rows small = omega (arith, list_most offset_text (λ row. 21 + length row.0) offset_most rows)

pub rows_small : (rows : List PostingsRow) → 4 + sum_by (λ row. 31 + length row.name + length row.value) rows < 2 ^ 32 → length (list_content row_text rows) < 2 ^ 32
rows_small rows small = omega (arith, list_most row_text (λ row. 31 + length row.name + length row.value) row_most rows)

pub postings_small : (numbers : List ℕ) → length numbers < 2 ^ 30 - 1 → length (list_content (to_be_bytes w32) numbers) < 2 ^ 32
postings_small numbers few = omega (arith, length-four_each numbers, length-append (to_be_bytes w32 (length numbers)) (flat_map (to_be_bytes w32) numbers))

pub values_small : (values : List ℕ) → length values < 2 ^ 30 - 2 → length (label_index_content values) < 2 ^ 32
values_small values few = omega (arith, length-four_each values, length-append (to_be_bytes w32 1) (list_content (to_be_bytes w32) values), length-append (to_be_bytes w32 (length values)) (flat_map (to_be_bytes w32) values))

-- the same of a table of offsets by its names
names_most : (names : List (List ℕ)) (offsets : List ℕ) → sum_by (λ row. 21 + length row.0) (zip names offsets) ≤ sum_by (λ name. 21 + length name) names
names_most [] _ = omega arith
names_most (name ∷ names) [] = omega arith
names_most (name ∷ names) (offset ∷ offsets) =
    omega (arith, names_most names offsets, sum_by-cons (λ row. 21 + length row.0) (name, offset) (zip names offsets), sum_by-cons (λ text. 21 + length text) name names)

pub names_small : (names : List (List ℕ)) (offsets : List ℕ) → 4 + sum_by (λ name. 21 + length name) names < 2 ^ 32 → length (list_content offset_text (zip names offsets)) < 2 ^ 32
names_small names offsets small = offsets_small _ (omega (arith, names_most names offsets))

pub texts_small : (symbols : List (List ℕ)) → 4 + sum_by (λ text. 21 + length text) symbols < 2 ^ 32 → length (list_content text_field symbols) < 2 ^ 32
texts_small symbols small = symbols_small _ (omega (arith, sum_by-le-sum_by (λ text. 10 + length text) (λ text. 21 + length text) symbols (λ text. omega arith)))
