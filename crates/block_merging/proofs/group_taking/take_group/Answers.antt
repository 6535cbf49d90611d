use Rattle.std.proofs.Common.{map, ap, refl, arith}
use Rattle.index_v2.specs.LentLabels.{as_label}
use Rattle.block_writing.proofs.Tested.{refused_at}
use Rattle.block_merging.specs.Placed.{chunk_of}
use Rattle.block_merging.specs.Queues.{IsQueue}
use Rattle.block_merging.proofs.AllQueues.{taken_begins, taken_on, taken_all}
use Rattle.block_merging.proofs.group_taking.take_group.Goals as goal

pub loop-place-init : goal.loop-place-init
loop-place-init c = taken_begins c.args.external.now c.args.replicas.now (map as_label c.args.labels.now) c.args.queues.now.items _ c.requires (ap (map chunk_of) c.clear.ensures.items)

pub take_front-requires : goal.take_front-requires
take_front-requires c =
    refused_at (IsQueue c.args.external.now c.args.replicas.now) c.loop-place.queues.items c.loop-place.place c.index_mut-queue.result.now c.index_mut-queue.result.now
    (let ok = c.loop-place.queues.ok in let begun = c.args.queues.now.ok in omega (arith, c.loop-place-test.true, c.loop-place.invariant.as_many)) c.index_mut-queue.ensures.value c.loop-place.invariant.queues

pub loop-place-preserved : goal.loop-place-preserved
loop-place-preserved c =
    taken_on c.args.external.now c.args.replicas.now (map as_label c.args.labels.now) c.args.queues.now.items c.loop-place.queues.items _ c.loop-place.place (map chunk_of c.loop-place.chunks.items) (map chunk_of c.in_ok-chunks.chunks.items) c.index_mut-queue.result.now c.take_front.new.queue c.index_mut-queue.result.now
    c.loop-place.invariant (let ok = c.loop-place.queues.ok in let begun = c.args.queues.now.ok in omega (arith, c.loop-place-test.true, c.loop-place.invariant.as_many)) c.index_mut-queue.ensures.value refl c.in_ok-chunks.ensures.is c.in_ok-chunks.ensures.taken

pub returns : goal.returns
returns c = record {
  queues = c.loop-place.invariant.queues;
  taken = taken_all c.args.external.now c.args.replicas.now (map as_label c.args.labels.now) c.args.queues.now.items c.loop-place.queues.items c.loop-place.place _
      (let ok = c.loop-place.queues.ok in let begun = c.args.queues.now.ok in omega (arith, c.loop-place-test.false, c.loop-place.invariant.as_many)) c.loop-place.invariant;
}
