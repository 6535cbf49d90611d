use Rattle.std.proofs.Common.{subst, sym, refl, arith}
use Rattle.std.specs.List.{AllByRecursion}
use Rattle.block_merging.specs.Queues.{IsRead}
use Rattle.block_merging.proofs.QueueSteps.{has_advanced, next_again}
use Rattle.block_merging.proofs.series_queue.advance.Goals as goal

pub overflow_add-queue : goal.overflow_add-queue
overflow_add-queue c = let ok = c.args.queue.now.places.ok in omega (arith, c.requires.some)

pub next_of-requires : goal.next_of-requires
next_of-requires c = subst (AllByRecursion (IsRead c.args.queue.now.reader)) (sym c.as_slice.ensures.value) c.requires.is.read

pub returns : goal.returns
returns c =
    has_advanced c.args.external.now c.args.replicas.now c.args.queue.now _ c.requires.is c.requires.some refl refl refl refl
    (next_again c.args.external.now c.args.replicas.now c.as_slice.result.now c.args.queue.now.places.items _ _ _ c.as_slice.ensures.value c.in_ok-chunks.ensures)
