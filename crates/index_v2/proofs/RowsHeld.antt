-- Rows that an index holds ascend.
use Rattle.std.proofs.Common.{◌≡◌, ℕ, Bool, true, false, List, []}
use Rattle.std.specs.Prelude.{MatchBool}
use Rattle.std.specs.List.Sorted.{IsStrictlySortedBy}
use Rattle.index_parts.specs.declared.postings_row.PostingsRow.{PostingsRow}
use Rattle.index_parts.specs.Rows.{compare_rows, IsPostingsTable}
use Rattle.index_parts.proofs.RowPlaces.{table_ascends}
use Rattle.index_parts.specs.IndexFile.{Holds}

held_by : (index : List ℕ) (reference : ℕ) (rows : List PostingsRow) (absent : Bool) → MatchBool absent (rows ≡ []) (IsPostingsTable index reference rows) → IsStrictlySortedBy compare_rows rows
unfolding IsStrictlySortedBy
held_by _ _ _ true none = rw none tt
held_by _ _ _ false is = table_ascends _ _ _ is

pub held_ascends : (index : List ℕ) (reference : ℕ) (rows : List PostingsRow) → Holds IsPostingsTable index reference rows → IsStrictlySortedBy compare_rows rows
held_ascends _ _ _ holds = held_by _ _ _ _ holds
