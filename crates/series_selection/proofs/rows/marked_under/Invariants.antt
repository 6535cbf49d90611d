use Rattle.std.proofs.Common.{◌≡◌}
use Rattle.matchers.specs.ConditionSearches.{condition_asked}
use Rattle.index_parts.specs.RowOrder.{BeginsAt}
use Rattle.series_selection.proofs.MarkedRows.{RowsMarked}
use Rattle.series_selection.proofs.rows.marked_under.Given as goal

abbrev pub invariant-loop-place : goal.invariant-loop-place
invariant-loop-place l =
    BeginsAt l.index.rows l.matcher.name l.initial.place
    × RowsMarked l.index l.matcher l.initial.place l.place l.numbers l.marks.items
    × (condition_asked l.searcher ≡ l.matcher.condition)
