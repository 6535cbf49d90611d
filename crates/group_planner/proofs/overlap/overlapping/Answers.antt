use Rattle.std.proofs.Common.{subst}
use Rattle.group_planner.specs.Overlaps.{IsOverlapPlan}
use Rattle.group_planner.proofs.OverlapLaws.{one_overlap}
use Rattle.group_planner.proofs.overlap.overlapping.Goals as goal

pub returns-clause-found : goal.returns-clause-found
returns-clause-found c = (c.overlap_of.result.now, subst (λ l. IsOverlapPlan l c.overlap_of.result.now) c.members.ensures c.overlap_of.ensures, c.ulids_of.ensures)

pub returns-clause-only : goal.returns-clause-only
returns-clause-only c = one_overlap c.args.metas.now
