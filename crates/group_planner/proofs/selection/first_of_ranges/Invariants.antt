use Rattle.std.proofs.Common.{drop}
use Rattle.group_planner.proofs.SelectionLaws.{Ranged}
use Rattle.group_planner.proofs.selection.first_of_ranges.Given as goal

abbrev pub invariant-loop-range : goal.invariant-loop-range
invariant-loop-range l = Ranged l.ranges (drop l.range-index l.ranges) l.high l.metas
