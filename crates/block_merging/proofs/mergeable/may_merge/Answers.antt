use Rattle.block_merging.specs.Inputs.{LiesWithin}
use Rattle.block_writing.proofs.Tested.{told, tested_more}
use Rattle.block_merging.proofs.InputWalks.{one_refused, all_lie}
use Rattle.block_merging.proofs.mergeable.may_merge.Goals as goal

pub loop-input-init : goal.loop-input-init
loop-input-init c = tt

pub loop-input-preserved : goal.loop-input-preserved
loop-input-preserved c =
    tested_more (LiesWithin c.args.plan.now) c.args.inputs.now c.loop-input.input-index c.input-item.result _ c.loop-input-test.true c.input-item.is c.loop-input.invariant (told _ _ c.lies_within.ensures c.if-not-lies_within.false)

pub returns-then-not-lies_within : goal.returns-then-not-lies_within
returns-then-not-lies_within c =
    one_refused c.args.plan.now c.args.inputs.now c.loop-input.input-index c.input-item.result _ c.lies_within.result c.loop-input-test.true c.input-item.is c.lies_within.ensures c.if-not-lies_within.true

pub returns : goal.returns
returns c = all_lie c.args.plan.now c.args.inputs.now c.loop-input.input-index c.loop-input-test.false c.loop-input.invariant
