-- The postings table (postings offset table): for each label the place of its postings list, ascending by name and then by
-- value. Its first row has an empty name and an empty value, and stands for all series.
use Rattle.std.specs.Prelude.{◌≡◌, ◌^◌, ◌<◌, ℕ, List, [], ◌∷◌, ◌++◌, Option, Some, None}
use Rattle.std.specs.Str.{IsUtf8}
use Rattle.std.specs.declared.cmp.Ordering.{Ordering}
use Rattle.std.specs.Ordering.{ordering_then}
use Rattle.base.specs.Order.{ComesAfter}
use Rattle.wire_bytes.specs.FieldTexts.{IsUvarint}
use Rattle.wire_bytes.specs.Written.{uvarint_text}
use Rattle.label_sets.specs.Labels.{compare_texts}
use Rattle.index_parts.specs.declared.postings_row.PostingsRow.{PostingsRow}
use Rattle.index_parts.specs.Framed.{IsText, text_field}
use Rattle.index_parts.specs.Lists.{IsList, list_text}

-- the order of rows: by name and then by value
abbrev pub compare_rows : PostingsRow → PostingsRow → Ordering
compare_rows one other = ordering_then (compare_texts one.name other.name) (compare_texts one.value other.value)

-- A row may stand behind another where it is greater, and first where it is that of all series.
abbrev pub MayComeAfter : Option PostingsRow → PostingsRow → Type 0
MayComeAfter None row = (row.name ≡ []) × (row.value ≡ [])
MayComeAfter (Some before) row = ComesAfter compare_rows (Some before) row

-- what a row begins with
abbrev pub row_kind : ℕ
row_kind = 2

-- that byte, the name, the value and the place
pub record IsNextRow (before : Option PostingsRow) (text : List ℕ) (row : PostingsRow) : Type 0 where
  pub name : List ℕ
  pub value : List ℕ
  pub offset : List ℕ
  pub name_is : IsText name row.name
  pub value_is : IsText value row.value
  pub offset_is : IsUvarint offset row.offset
  pub text_is : text ≡ row_kind ∷ (name ++ value ++ offset)
  pub ascends : MayComeAfter before row

abbrev pub IsPostingsTable : List ℕ → ℕ → List PostingsRow → Type 0
IsPostingsTable = IsList IsNextRow

-- ---- what a writer puts

-- what the types of a row's fields say
abbrev pub IsWritable : PostingsRow → Type 0
IsWritable row = IsUtf8 row.name × IsUtf8 row.value × (row.offset < 2 ^ 64)

abbrev pub row_text : PostingsRow → List ℕ
row_text row = row_kind ∷ (text_field row.name ++ text_field row.value ++ uvarint_text row.offset)

abbrev pub postings_table_text : List PostingsRow → List ℕ
postings_table_text rows = list_text row_text rows
