use Rattle.std.proofs.Common.{subst}
use Rattle.group_planner.specs.Selections.{IsSelection}
use Rattle.group_planner.proofs.SelectionLaws.{one_selection}
use Rattle.group_planner.proofs.selection.select.Goals as goal

pub returns-clause-found : goal.returns-clause-found
returns-clause-found c = (c.selection_in.result.now, subst (λ l. IsSelection l c.selection_in.result.now) c.members.ensures c.selection_in.ensures, c.ulids_of.ensures)

pub returns-clause-only : goal.returns-clause-only
returns-clause-only c = one_selection c.args.metas.now
