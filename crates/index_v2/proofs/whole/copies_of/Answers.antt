use Rattle.std.proofs.Common.{arith, ◌∙◌}
use Rattle.std.proofs.lemmas.List.{take_all}
use Rattle.index_v2.proofs.LentOrder.{one_copied}
use Rattle.index_v2.proofs.whole.copies_of.Goals as goal

pub loop-one-preserved : goal.loop-one-preserved
loop-one-preserved c = one_copied _ _ _ _ _ _ _ c.loop-one.invariant c.loop-one-test.true c.one-item.is c.in_ok-copy.ensures c.in_ok-push.ensures.items

pub returns : goal.returns
returns c = c.from_vec.ensures ∙ c.loop-one.invariant ∙ take_all c.loop-one.one-index c.args.series.now (omega arith)
