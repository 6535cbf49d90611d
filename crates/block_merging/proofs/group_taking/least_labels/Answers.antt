use Rattle.block_writing.proofs.Tested.{refused_at}
use Rattle.block_merging.specs.Queues.{IsQueue}
use Rattle.block_merging.proofs.AllQueues.{least_none, least_more, least_all, one_rises}
use Rattle.block_merging.proofs.group_taking.least_labels.Goals as goal

pub loop-queue-init : goal.loop-queue-init
loop-queue-init c = least_none c.args.external.now c.args.replicas.now c.args.queues.now

pub loop-queue-preserved : goal.loop-queue-preserved
loop-queue-preserved c =
    let is = refused_at (IsQueue c.args.external.now c.args.replicas.now) c.args.queues.now c.loop-queue.queue-index c.queue-item.result c.queue-item.result c.loop-queue-test.true c.queue-item.is c.requires.queues in
    let rises = one_rises c.args.external.now c.args.replicas.now c.args.queues.now c.loop-queue.queue-index c.queue-item.result c.queue-item.result c.loop-queue-test.true c.queue-item.is c.requires.rise in
    least_more c.args.external.now c.args.replicas.now c.args.queues.now c.loop-queue.queue-index c.queue-item.result c.queue-item.result _ _ _ c.loop-queue-test.true c.queue-item.is
    c.loop-queue.invariant (c.next_labels.ensures c.args.external.now c.args.replicas.now is rises) c.lesser-least.ensures

pub returns : goal.returns
returns c = least_all c.args.external.now c.args.replicas.now c.args.queues.now c.loop-queue.queue-index _ c.loop-queue-test.false c.loop-queue.invariant
