use Rattle.std.proofs.Common.{refl}
use Rattle.label_sets.specs.Times.{IsWithin}
use Rattle.block_writing.specs.Writing.{plan_fields}
use Rattle.block_writing.proofs.Tested.{told, tested_more, none_refused, sample_refused, samples_tested}
use Rattle.block_writing.proofs.buildable.are_of_block.Goals as goal

pub returns-then-is_empty : goal.returns-then-is_empty
returns-then-is_empty c = none_refused (plan_fields c.args.plan.now) c.args.samples.now c.is_empty.result c.is_empty.ensures c.if-is_empty.true

pub loop-sample-init : goal.loop-sample-init
loop-sample-init c = tt

pub loop-sample-preserved : goal.loop-sample-preserved
loop-sample-preserved c =
    tested_more (IsWithin c.args.plan.now.min_time c.args.plan.now.max_time) c.args.samples.now c.loop-sample.sample-index _ _ c.loop-sample-test.true refl c.loop-sample.invariant (told _ _ c.is_of_block.ensures c.if-not-is_of_block.false)

pub returns-then-not-is_of_block : goal.returns-then-not-is_of_block
returns-then-not-is_of_block c =
    sample_refused (plan_fields c.args.plan.now) c.args.samples.now c.loop-sample.sample-index _ _ c.is_of_block.result c.loop-sample-test.true refl c.is_of_block.ensures c.if-not-is_of_block.true

pub returns : goal.returns
returns c =
    samples_tested (plan_fields c.args.plan.now) c.args.samples.now c.loop-sample.sample-index c.is_empty.result c.times_ascend.result c.is_empty.ensures c.if-is_empty.false c.loop-sample-test.false c.loop-sample.invariant c.times_ascend.ensures
