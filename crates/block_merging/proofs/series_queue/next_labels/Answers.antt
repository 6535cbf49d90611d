use Rattle.std.proofs.Common.{map, ap, arith}
use Rattle.index_v2.specs.LentLabels.{as_label}
use Rattle.block_merging.proofs.QueueSteps.{next_is_least, none_left}
use Rattle.block_merging.proofs.series_queue.next_labels.Goals as goal

pub returns-then-queue-len : goal.returns-then-queue-len
returns-then-queue-len c = λ external replicas is rises. next_is_least external replicas c.args.queue.now (map as_label c.as_slice.result.now) (ap (map as_label) c.as_slice.ensures.value) (let ok = c.args.queue.now.places.ok in omega (arith, c.if-queue-len.true)) is rises

pub returns-else-queue-len : goal.returns-else-queue-len
returns-else-queue-len c = λ external replicas is rises. none_left external replicas c.args.queue.now (let ok = c.args.queue.now.places.ok in omega (arith, c.if-queue-len.false))
