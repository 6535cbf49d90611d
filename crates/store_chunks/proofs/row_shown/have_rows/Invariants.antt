use Rattle.std.proofs.Common.{drop}
use Rattle.store_ranges.specs.Asking.{query_asked}
use Rattle.store_chunks.specs.RowsFit.{HaveRows}
use Rattle.store_chunks.proofs.row_shown.have_rows.Given as goal

abbrev pub invariant-loop-one : goal.invariant-loop-one
invariant-loop-one l = HaveRows (query_asked l.asked) (drop l.one-index l.series) l.left → HaveRows (query_asked l.asked) l.series l.found
