-- Rows that lend their texts, as rows.
use Rattle.index_parts.specs.declared.postings_table.LentRow.{LentRow}
use Rattle.index_parts.specs.declared.postings_table.RowFields.{RowFields}
use Rattle.index_parts.specs.declared.postings_row.PostingsRow.{PostingsRow}
use Rattle.index_parts.specs.declared.refusal.PartRefusal.{PartRefusal}
use Rattle.index_parts.specs.RowsReading.{row_told}
use Rattle.std.specs.Prelude.{Option, option_map, Result}

abbrev pub row_of : LentRow → PostingsRow
row_of row = record { name = row.name.now; value = row.value.now; offset = row.offset }

abbrev pub row_before : Option LentRow → Option PostingsRow
row_before before = option_map row_of before

abbrev pub row_of_fields : RowFields → PostingsRow
row_of_fields fields = record { name = fields.name.now; value = fields.value.now; offset = fields.offset }

-- the row of these fields behind another, or its first refusal
abbrev pub fields_tell : Option LentRow → RowFields → Result PostingsRow PartRefusal
fields_tell before fields = row_told (row_before before) fields.place fields.name_end fields.value_end (row_of_fields fields)
