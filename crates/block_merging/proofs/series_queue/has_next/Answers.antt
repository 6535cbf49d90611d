use Rattle.std.proofs.Common.{map, ap, sym, subst, arith}
use Rattle.std.proofs.lemmas.Bool.{le-ltb}
use Rattle.index_v2.specs.LentLabels.{as_label}
use Rattle.block_merging.specs.Queues.{head_is}
use Rattle.block_merging.proofs.QueueSteps.{head_then, head_else}
use Rattle.block_merging.proofs.series_queue.has_next.Goals as goal

pub returns-then-queue-len : goal.returns-then-queue-len
returns-then-queue-len c =
    head_then c.args.queue.now (map as_label c.as_slice.result.now) (map as_label c.args.labels.now) c.are_same.result (let ok = c.args.queue.now.places.ok in omega (arith, c.if-queue-len.true)) (ap (map as_label) c.as_slice.ensures.value) c.are_same.ensures

pub returns-else-queue-len : goal.returns-else-queue-len
returns-else-queue-len c =
    subst (head_is c.args.queue.now (map as_label c.args.labels.now)) (sym (le-ltb c.args.queue.now.taken c.len.result (omega (arith, c.if-queue-len.false))))
    (head_else c.args.queue.now (map as_label c.args.labels.now) (let ok = c.args.queue.now.places.ok in omega (arith, c.if-queue-len.false)))
