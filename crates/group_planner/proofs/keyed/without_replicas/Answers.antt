use Rattle.group_planner.proofs.KeyOrders.{reduced_none}
use Rattle.group_planner.proofs.keyed.without_replicas.Goals as goal

pub returns : goal.returns
returns c = reduced_none c.in_ok-made.made c.args.labels.now c.empty-external.result c.args.replicas.now c.empty-external.ensures c.in_ok-made.ensures.value
