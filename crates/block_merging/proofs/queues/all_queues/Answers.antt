use Rattle.std.proofs.Common.{arith}
use Rattle.block_merging.proofs.InputWalks.{tests_stop, tests_end}
use Rattle.block_merging.proofs.AllQueues.{queues_begin, queues_go_on, queues_end, tests_short}
use Rattle.block_merging.proofs.queues.all_queues.Goals as goal

pub loop-block-init : goal.loop-block-init
loop-block-init c = queues_begin c.args.external.now c.args.replicas.now c.args.inputs.now c.new-queues.result.items c.new-queues.ensures.items

pub returns-in-Err-clause-tested : goal.returns-in-Err-clause-tested
returns-in-Err-clause-tested c =
    tests_stop c.args.inputs.now c.loop-block.block-index c.loop-block.number c.block-item.result c.block-item.result c.queue_of.result c.in-Err.cause c.refused_input.result c.loop-block.invariant.tested c.loop-block-test.true c.block-item.is
    c.queue_of.ensures.tested c.in-Err.is c.refused_input.ensures

pub returns-in_err-push-in-Ok-clause-tested : goal.returns-in_err-push-in-Ok-clause-tested
returns-in_err-push-in-Ok-clause-tested c = tests_short c.args.inputs.now c.from_residual.result c.from_residual.ensures.1

pub loop-block-preserved : goal.loop-block-preserved
loop-block-preserved c =
    queues_go_on c.args.external.now c.args.replicas.now c.args.inputs.now c.loop-block.block-index c.loop-block.number c.saturating_add-number.result c.loop-block.queues.items c.push.new.self.items c.in-Ok.queue c.block-item.result c.block-item.result c.queue_of.result c.in-Ok.queue
    c.loop-block.invariant c.loop-block-test.true c.block-item.is c.queue_of.ensures.tested c.in-Ok.is c.in-Ok.ensures.has c.in_ok-push-in-Ok.ensures.items (omega (arith, c.saturating_add-number.ensures))

pub returns : goal.returns
returns c = record {
  has = queues_end c.args.external.now c.args.replicas.now c.args.inputs.now c.loop-block.block-index c.loop-block.queues.items c.loop-block-test.false c.loop-block.invariant.has;
  tested = tests_end c.args.inputs.now c.loop-block.block-index c.loop-block.number c.loop-block.queues c.loop-block.invariant.tested c.loop-block-test.false;
}
