use Rattle.block_merging.proofs.SameLabels.{value_same, value_differs}
use Rattle.block_merging.proofs.lent_labels.is_same.Goals as goal

pub returns-then-eq : goal.returns-then-eq
returns-then-eq c = value_same c.args.one.now c.args.other.now c.eq.result c.eq-then-eq.result c.eq.ensures c.if-eq.true c.eq-then-eq.ensures

pub returns-else-eq : goal.returns-else-eq
returns-else-eq c = value_differs c.args.one.now c.args.other.now c.eq.result c.eq.ensures c.if-eq.false
