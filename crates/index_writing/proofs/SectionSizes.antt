-- How long the sections of texts are, at least and at most, by the lengths of their texts.
use Rattle.std.proofs.Common.{◌≡◌, ℕ, ◌+◌, ◌*◌, ◌^◌, ◌<◌, ◌≤◌, List, [], ◌∷◌, ◌++◌, length, zip, sym, ap, ◌∙◌, subst, arith, length-append}
use Rattle.std.specs.Int.{w32, to_be_bytes}
use Rattle.std.specs.List.{flat_map, sum_by}
use Rattle.std.proofs.lemmas.List.Concat.{length-flat_map}
use Rattle.std.proofs.lemmas.List.Folds.{fold-map}
use Rattle.std.proofs.lemmas.List.Sums.{sum_by-cons, sum_by-le-sum_by}
use Rattle.wire_bytes.specs.Written.{uvarint_text}
use Rattle.wire_bytes.specs.Crc.{crc}
use Rattle.wire_bytes.proofs.FixedLaws.{length-four_each}
use Rattle.index_parts.specs.declared.postings_row.PostingsRow.{PostingsRow}
use Rattle.index_parts.specs.Framed.{section_text, text_field}
use Rattle.index_parts.specs.Lists.{list_content, list_text}
use Rattle.index_parts.specs.LabelIndices.{offset_text, label_index_text, label_index_content, label_offsets_text}
use Rattle.index_parts.specs.Postings.{postings_text}
use Rattle.index_parts.specs.Rows.{row_text, postings_table_text}
use Rattle.index_parts.specs.Symbols.{symbols_text}
use Rattle.index_writing.proofs.Writing.{uvarint_text_size}
use Rattle.index_writing.proofs.Sizes.{texts_small, names_small, rows_small}
use Rattle.base.proofs.Lists.{zip_firsts}
use Rattle.index_writing.specs.WriteSteps.{greatest, text_size, row_size}

-- ---- at most

texts_most : (texts : List (List ℕ)) → sum_by (λ text. 21 + length text) texts ≤ 21 * sum_by text_size texts
texts_most [] = omega arith
texts_most (text ∷ texts) = omega (arith, texts_most texts, sum_by-cons (λ t. 21 + length t) text texts, sum_by-cons text_size text texts)

rows_most : (rows : List PostingsRow) → sum_by (λ row. 31 + length row.name + length row.value) rows ≤ 8 * sum_by row_size rows
rows_most [] = omega arith
rows_most (row ∷ rows) = omega (arith, rows_most rows, sum_by-cons (λ r. 31 + length r.name + length r.value) row rows, sum_by-cons row_size row rows)

pub symbols_fit : (symbols : List (List ℕ)) → sum_by text_size symbols ≤ greatest → length (list_content text_field symbols) < 2 ^ 32
symbols_fit symbols fit = texts_small _ (omega (arith, texts_most symbols))

pub offsets_fit : (names : List (List ℕ)) (places : List ℕ) → sum_by text_size names ≤ greatest → length (list_content offset_text (zip names places)) < 2 ^ 32
offsets_fit names places fit = names_small _ _ (omega (arith, texts_most names))

pub rows_fit : (rows : List PostingsRow) → sum_by row_size rows ≤ greatest → length (list_content row_text rows) < 2 ^ 32
rows_fit rows fit = rows_small _ (omega (arith, rows_most rows))

-- ---- at least

pub section_least : (content : List ℕ) → length content ≤ length (section_text content)
unfolding section_text
section_least content = omega (arith, length-append (to_be_bytes w32 (length content) ++ content) (to_be_bytes w32 (crc content)), length-append (to_be_bytes w32 (length content)) content)

pub list_least : {A : Type 0} (text_of : A → List ℕ) (members : List A) → length (flat_map text_of members) ≤ length (section_text (list_content text_of members))
list_least text_of members = omega (arith, section_least (list_content text_of members), length-append (to_be_bytes w32 (length members)) (flat_map text_of members))

field_least : (text : List ℕ) → text_size text ≤ length (text_field text)
field_least text = omega (arith, uvarint_text_size (length text), length-append (uvarint_text (length text)) text)

row_least : (row : PostingsRow) → row_size row ≤ length (row_text row)
row_least row = omega (arith, field_least row.name, field_least row.value, uvarint_text_size row.offset, length-append (text_field row.name ++ text_field row.value) (uvarint_text row.offset), length-append (text_field row.name) (text_field row.value))

-- too large by what each member takes at least
list_over : {A : Type 0} (text_of : A → List ℕ) (size : A → ℕ) → ((x : A) → size x ≤ length (text_of x)) → (before : List ℕ) (members : List A) → greatest < sum_by size members → greatest < length (before ++ list_text text_of members)
list_over text_of size least before members large =
    omega (arith, length-flat_map text_of members, sum_by-le-sum_by size (λ x. length (text_of x)) members least, list_least text_of members, length-append before (list_text text_of members))

pub symbols_large : (before : List ℕ) (symbols : List (List ℕ)) → greatest < sum_by text_size symbols → greatest < length (before ++ symbols_text symbols)
symbols_large = list_over text_field text_size field_least

pub rows_large : (before : List ℕ) (rows : List PostingsRow) → greatest < sum_by row_size rows → greatest < length (before ++ postings_table_text rows)
rows_large = list_over row_text row_size row_least

offset_least : (row : List ℕ × ℕ) → text_size row.0 ≤ length (offset_text row)
offset_least row = omega (arith, field_least row.0, length-append (text_field row.0) (uvarint_text row.1))

pub offsets_large : (before : List ℕ) (names : List (List ℕ)) (places : List ℕ) → length names ≡ length places → greatest < sum_by text_size names → greatest < length (before ++ label_offsets_text (zip names places))
offsets_large before names places many large =
    list_over offset_text (λ row. text_size row.0) offset_least before _ (subst (λ n. greatest < n) (ap (sum_by text_size) (sym (zip_firsts names places many)) ∙ fold-map (λ a x. a + text_size x) (λ row. row.0) 0 (zip names places)) large)

-- ---- sections of numbers

pub list_large : (before : List ℕ) (numbers : List ℕ) → 2 ^ 24 < length numbers → greatest < length (before ++ postings_text numbers)
list_large before numbers many = omega (arith, length-four_each numbers, list_least (to_be_bytes w32) numbers, length-append before (postings_text numbers))

pub values_large : (before : List ℕ) (values : List ℕ) → 2 ^ 24 < length values → greatest < length (before ++ label_index_text values)
values_large before values many =
    omega (arith, length-four_each values, section_least (label_index_content values), length-append before (label_index_text values), length-append (to_be_bytes w32 1) (list_content (to_be_bytes w32) values), length-append (to_be_bytes w32 (length values)) (flat_map (to_be_bytes w32) values))
