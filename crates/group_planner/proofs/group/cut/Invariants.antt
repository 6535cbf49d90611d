use Rattle.group_planner.specs.Cuts.{IsCut}
use Rattle.group_planner.proofs.group.cut.Given as goal

abbrev pub invariant-loop-next : goal.invariant-loop-next
invariant-loop-next l = IsCut l.yielded l.groups.items
