-- The table of label indices as it is written.
use Rattle.std.proofs.Common.{◌≡◌, ℕ, ◌^◌, ◌<◌, ◌≤◌, List, [], ◌∷◌, ◌++◌, length, zip, Option, refl, sym, ap, ◌∙◌, length-append, arith}
use Rattle.std.specs.Int.{w32, to_be_bytes}
use Rattle.std.specs.List.{AllByRecursion, flat_map}
use Rattle.std.specs.Str.{IsUtf8}
use Rattle.wire_bytes.specs.Written.{uvarint_text}
use Rattle.wire_bytes.proofs.GroupTexts.{uvarint_text_is}
use Rattle.index_parts.specs.Turns.{InOrderAfter}
use Rattle.index_parts.specs.Framed.{IsSection, text_field}
use Rattle.index_parts.specs.Lists.{list_content}
use Rattle.index_parts.specs.LabelIndices.{IsOffset, IsLabelOffsets, offset_text}
use Rattle.base.proofs.Lists.{length-zip}
use Rattle.index_writing.proofs.Writing.{IsWrittenBy, list_stands, count_fits, text_written}

-- ---- where it stands

pub offset_size : (row : List ℕ × ℕ) → 1 ≤ length (offset_text row)
offset_size _ = omega arith

pub offsets_few : (names : List (List ℕ)) (offsets : List ℕ) → length names ≡ length offsets → length (list_content offset_text (zip names offsets)) < 2 ^ 32 → length names < 2 ^ 32
offsets_few names offsets many fits = omega (arith, length-zip names offsets many, count_fits offset_text offset_size (zip names offsets) fits)

-- the content with its count, by the rows or by the names
pub offsets_content_is : (names : List (List ℕ)) (offsets : List ℕ) → length names ≡ length offsets → to_be_bytes w32 (length names) ++ flat_map offset_text (zip names offsets) ≡ list_content offset_text (zip names offsets)
offsets_content_is names offsets many = ap (λ n. to_be_bytes w32 n ++ flat_map offset_text (zip names offsets)) (sym (length-zip _ _ many))

abbrev pub Fits : List ℕ × ℕ → Type 0
Fits row = IsUtf8 row.0 × (row.1 < 2 ^ 64)

any_order : (rows : List (List ℕ × ℕ)) (before : Option (List ℕ × ℕ)) → InOrderAfter (λ _ _. Unit {0}) before rows
any_order [] _ = tt
any_order (row ∷ rows) before = (tt, any_order rows _)

pub offset_writing : IsWrittenBy (λ _ text row. IsOffset text row) (λ _ _. Unit {0}) Fits offset_text
offset_writing = record {
  some = offset_size;
  one = λ before row _ fits small. record {
    name = text_field row.0;
    offset = uvarint_text row.1;
    name_is = text_written _ fits.0 (omega (arith, length-append (text_field row.0) (uvarint_text row.1), length-append (uvarint_text (length row.0)) row.0));
    offset_is = uvarint_text_is _ fits.1;
    text_is = refl;
  };
}

pub offsets_stand : (index : List ℕ) (at : ℕ) (names : List (List ℕ)) (offsets : List ℕ) → length (list_content offset_text (zip names offsets)) < 2 ^ 32 → AllByRecursion Fits (zip names offsets) → IsSection index at (list_content offset_text (zip names offsets)) → IsLabelOffsets index at (zip names offsets)
offsets_stand index at names offsets small fit section =
    list_stands (λ _ text row. IsOffset text row) (λ _ _. Unit {0}) Fits offset_text offset_writing index at (zip names offsets) small fit (any_order _ _) section

pub lent_content : (seen names : List (List ℕ)) (told offsets lent made : List ℕ) → lent ≡ made → made ≡ to_be_bytes w32 (length seen) ++ flat_map offset_text (zip seen told) → seen ≡ names → told ≡ offsets → length names ≡ length offsets → lent ≡ list_content offset_text (zip names offsets)
lent_content _ names told _ _ _ a b c d many =
    a ∙ b ∙ ap (λ n. to_be_bytes w32 (length n) ++ flat_map offset_text (zip n told)) c ∙ ap (λ o. to_be_bytes w32 (length names) ++ flat_map offset_text (zip names o)) d ∙ offsets_content_is _ _ many
