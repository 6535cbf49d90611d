-- The series that a selector takes by a reader's lists.
use Rattle.std.specs.Prelude.{◌≡◌, ◌⊎◌, slice_get, Option, Some, None, Ok, IsOk, IsErr}
use Rattle.index_v2.specs.Held.{Held}
use Rattle.index_v2.specs.PostingsLists.{list_of}
use Rattle.index_v2.specs.WholeReading.{lists_at}
use Rattle.series_selection.specs.Selections.{rows_read}
use Rattle.store_ranges.specs.Reads.{Query, Block}
use Rattle.store_ranges.specs.IndexReads.{Tables, IsTakenBy}
use Rattle.store_ranges.specs.declared.selection.Selection.{Selection}

abbrev pub tables_held : Held → Tables
tables_held held = record { symbols = held.symbols; rows = held.rows; lists = held.lists }

-- All series and those that the selector takes, or one of the lists that it needs is refused.
abbrev pub Selects : Query → Block → Tables → Option Selection → Type 0
Selects query block tables (Some found) =
    (list_of tables.lists (slice_get tables.rows 0) ≡ Ok found.all)
    × IsOk (lists_at tables.lists (rows_read block.external tables.rows query.selector))
    × IsTakenBy query block tables found.numbers
Selects query block tables None =
    IsErr (list_of tables.lists (slice_get tables.rows 0)) ⊎ IsErr (lists_at tables.lists (rows_read block.external tables.rows query.selector))
