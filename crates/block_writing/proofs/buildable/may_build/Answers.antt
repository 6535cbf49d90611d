use Rattle.block_writing.specs.Writing.{plan_fields}
use Rattle.block_writing.proofs.Tested.{series_refused, series_more, series_tested}
use Rattle.block_writing.proofs.buildable.may_build.Goals as goal

pub loop-one-preserved : goal.loop-one-preserved
loop-one-preserved c =
    series_more (plan_fields c.args.plan.now) c.members-series.result.now c.loop-one.one-index c.one-item.result _ c.members.result.now c.are_of_block.result c.loop-one-test.true c.one-item.is c.members.ensures c.are_of_block.ensures c.if-not-are_of_block.false c.loop-one.invariant

pub returns-then-not-are_of_block : goal.returns-then-not-are_of_block
returns-then-not-are_of_block c =
    series_refused (plan_fields c.args.plan.now) c.args.series.now c.members-series.result.now c.loop-one.one-index c.one-item.result _ c.members.result.now c.are_of_block.result c.members-series.ensures c.loop-one-test.true c.one-item.is c.members.ensures c.are_of_block.ensures c.if-not-are_of_block.true

pub returns : goal.returns
returns c =
    series_tested (plan_fields c.args.plan.now) c.args.series.now c.members-series.result.now c.loop-one.one-index c.ascend.result c.members-series.ensures c.loop-one-test.false c.loop-one.invariant c.ascend.ensures
