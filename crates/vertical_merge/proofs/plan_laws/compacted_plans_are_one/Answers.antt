use Rattle.vertical_merge.proofs.OnePlan.{one_compacted}
use Rattle.vertical_merge.proofs.plan_laws.compacted_plans_are_one.Goals as goal

pub returns : goal.returns
returns c = one_compacted
