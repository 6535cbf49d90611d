use Rattle.std.proofs.Common.{◌≡◌, eqb, false, length, arith}
use Rattle.std.proofs.lemmas.Grind.{common_steps}
use Rattle.group_planner.proofs.PlanLaws.{plan_of_overlap}
use Rattle.group_planner.proofs.planning.planned_metas.Goals as goal

pub returns-else-is_empty : goal.returns-else-is_empty
returns-else-is_empty c =
    let some : eqb (length c.overlap_of-overlaps.result.now) 0 ≡ false = grind (arith, common_steps, c.if-is_empty.ensures) in
    plan_of_overlap c.args.metas.now c.overlap_of-overlaps.result.now c.overlap_of-overlaps.ensures some
