-- Label indices and their table, which are written and never read.
use Rattle.std.specs.Prelude.{◌≡◌, ℕ, List, ◌∷◌, ◌++◌, length}
use Rattle.std.specs.Int.{w32, to_be_bytes}
use Rattle.base.specs.Grammar.{AreTexts}
use Rattle.wire_bytes.specs.FieldTexts.{IsFixed, IsUvarint}
use Rattle.wire_bytes.specs.Written.{uvarint_text}
use Rattle.index_parts.specs.Framed.{IsSection, IsText, section_text, text_field}
use Rattle.index_parts.specs.Lists.{IsList, list_content, list_text}

-- At a place of the index stands a section of the number 1, of how many values a name has, and of their symbol numbers, each
-- in four bytes.
pub record IsLabelIndex (index : List ℕ) (at : ℕ) (values : List ℕ) : Type 0 where
  pub content : List ℕ
  pub one : List ℕ
  pub count : List ℕ
  pub texts : List ℕ
  pub section : IsSection index at content
  pub content_is : content ≡ one ++ count ++ texts
  pub one_is : IsFixed w32 one 1
  pub count_is : IsFixed w32 count (length values)
  pub texts_are : AreTexts (IsFixed w32) texts values

-- what a row of their table begins with
abbrev pub offset_kind : ℕ
offset_kind = 1

-- that byte, a name, and the place of its label index
pub record IsOffset (text : List ℕ) (row : List ℕ × ℕ) : Type 0 where
  pub name : List ℕ
  pub offset : List ℕ
  pub name_is : IsText name row.0
  pub offset_is : IsUvarint offset row.1
  pub text_is : text ≡ offset_kind ∷ (name ++ offset)

abbrev pub IsLabelOffsets : List ℕ → ℕ → List (List ℕ × ℕ) → Type 0
IsLabelOffsets = IsList (λ _ text row. IsOffset text row)

-- ---- what a writer puts

abbrev pub label_index_content : List ℕ → List ℕ
label_index_content values = to_be_bytes w32 1 ++ list_content (to_be_bytes w32) values

abbrev pub label_index_text : List ℕ → List ℕ
label_index_text values = section_text (label_index_content values)

abbrev pub offset_text : List ℕ × ℕ → List ℕ
offset_text row = offset_kind ∷ (text_field row.0 ++ uvarint_text row.1)

abbrev pub label_offsets_text : List (List ℕ × ℕ) → List ℕ
label_offsets_text rows = list_text offset_text rows
