use Rattle.std.proofs.Common.{length}
use Rattle.group_planner.proofs.SelectionLaws.{Searched}
use Rattle.group_planner.proofs.selection.first_of_range.Given as goal

abbrev pub invariant-loop-part : goal.invariant-loop-part
invariant-loop-part l = Searched l.range l.high l.fn.metas l.left

abbrev pub decreases-loop-part : goal.decreases-loop-part
decreases-loop-part l = length l.left
