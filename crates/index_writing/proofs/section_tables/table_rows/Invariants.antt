use Rattle.std.proofs.Common.{◌≡◌, ◌++◌, ◌+◌, ◌≤◌, drop}
use Rattle.std.specs.List.{sum_by}
use Rattle.index_writing.specs.WriteSteps.{greatest, row_size}
use Rattle.index_writing.specs.Written.{label_rows, table_rows}
use Rattle.index_writing.proofs.section_tables.table_rows.Given as goal

abbrev pub invariant-loop-place : goal.invariant-loop-place
invariant-loop-place l = (l.table ++ label_rows l.symbols (drop l.place l.rows) (drop (l.place + 1) l.places) ≡ table_rows l.symbols l.rows l.places) × (l.size ≡ sum_by row_size l.table) × (l.size ≤ greatest)
