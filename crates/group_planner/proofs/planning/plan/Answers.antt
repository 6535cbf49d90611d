use Rattle.std.proofs.Common.{subst}
use Rattle.group_planner.specs.Plans.{IsPlan}
use Rattle.group_planner.proofs.PlanLaws.{one_plan}
use Rattle.group_planner.proofs.planning.plan.Goals as goal

pub returns-clause-found : goal.returns-clause-found
returns-clause-found c = (c.planned_metas.result.now, subst (λ l. IsPlan l c.planned_metas.result.now) c.members.ensures c.planned_metas.ensures, c.ulids_of.ensures)

pub returns-clause-only : goal.returns-clause-only
returns-clause-only c = one_plan c.args.group.now.members
