use Rattle.group_planner.proofs.SelectionLaws.{selection_of_none, none_last}
use Rattle.group_planner.proofs.selection.selection_in.Goals as goal

pub returns-in_default : goal.returns-in_default
returns-in_default c = selection_of_none c.args.metas.now (none_last c.args.metas.now c.in_default.ensures.value)
