-- What reading a postings table gives, or the first refusal.
use Rattle.std.specs.Prelude.{ℕ, ◌-◌, List, length, Option, Some, None, Bool, ◌&&◌, Result, Ok, ◌==◌}
use Rattle.std.specs.Int.{w8}
use Rattle.std.specs.Str.{is_utf8}
use Rattle.base.specs.Order.{comes_after}
use Rattle.base.specs.Reading.{◌>>=◌, ◌>>◌, unless}
use Rattle.wire_bytes.specs.Position.{Position}
use Rattle.wire_bytes.specs.Fields.{number_at, uvarint_at}
use Rattle.index_parts.specs.declared.refusal.PartRefusal.{PartRefusal}
use Rattle.index_parts.specs.declared.refusal.PartRefusal.TheVariants.{Unordered, NotText}
use Rattle.index_parts.specs.declared.postings_row.PostingsRow.{PostingsRow}
use Rattle.index_parts.specs.Placed.{field, text_at}
use Rattle.index_parts.specs.ListReading.{list_at}
use Rattle.index_parts.specs.Rows.{compare_rows, row_kind}

-- whether a row may stand behind another, or first
abbrev pub may_come_after : Option PostingsRow → PostingsRow → Bool
may_come_after None row = (length row.name == 0) && (length row.value == 0)
may_come_after (Some before) row = comes_after compare_rows (Some before) row

-- a row whose fields were read, the name and the value up to these places: its order is tested, and then its texts
abbrev pub row_told : Option PostingsRow → ℕ → ℕ → ℕ → PostingsRow → Result PostingsRow PartRefusal
row_told before place name_end value_end row = do
  unless (may_come_after before row) (Unordered place)
  unless (is_utf8 row.name) (NotText (name_end - length row.name))
  unless (is_utf8 row.value) (NotText (value_end - length row.value))
  Ok row

-- a row: all its fields are read first
unfoldable pub row_at : Option PostingsRow × Position → Result (PostingsRow × (Option PostingsRow × Position)) PartRefusal
row_at s = do
  kind ← field (number_at w8) s.1
  unless (kind.0 == row_kind) (Unordered s.1.place)
  name ← text_at kind.1
  value ← text_at name.1
  offset ← field uvarint_at value.1
  row ← row_told s.0 s.1.place name.1.place value.1.place (record { name = name.0; value = value.0; offset = offset.0 })
  Ok (row, (Some row, offset.1))

abbrev pub postings_table_at : List ℕ → ℕ → Result (List PostingsRow) PartRefusal
postings_table_at = list_at row_at
