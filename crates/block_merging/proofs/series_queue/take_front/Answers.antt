use Rattle.std.proofs.Common.{map, arith}
use Rattle.index_v2.specs.LentLabels.{as_label}
use Rattle.block_merging.specs.Placed.{chunk_of}
use Rattle.block_merging.specs.Queues.{left_in, next_in}
use Rattle.block_merging.proofs.QueueSteps.{has_next_told, front_begins, front_more, front_ends, next_stands, chunks_next}
use Rattle.block_merging.proofs.series_queue.take_front.Goals as goal

pub loop-alloc-init : goal.loop-alloc-init
loop-alloc-init c = (c.requires, front_begins (map as_label c.args.labels.now) (left_in c.args.external.now c.args.replicas.now c.args.queue.now) (map chunk_of c.args.chunks.items))

pub add_chunks-requires : goal.add_chunks-requires
add_chunks-requires c =
    let told = has_next_told c.loop-alloc.queue (map as_label c.args.labels.now) c.has_next.result c.has_next.ensures c.loop-alloc-test.true in
    next_stands c.args.external.now c.args.replicas.now c.loop-alloc.queue c.members.result.now c.as_slice.result.now c.loop-alloc.invariant.0 told.0 c.members.ensures c.as_slice.ensures.value

pub advance-requires-clause-is : goal.advance-requires-clause-is
advance-requires-clause-is c = c.loop-alloc.invariant.0

pub advance-requires-clause-some : goal.advance-requires-clause-some
advance-requires-clause-some c = (has_next_told c.loop-alloc.queue (map as_label c.args.labels.now) c.has_next.result c.has_next.ensures c.loop-alloc-test.true).0

pub loop-alloc-preserved : goal.loop-alloc-preserved
loop-alloc-preserved c =
    let told = has_next_told c.loop-alloc.queue (map as_label c.args.labels.now) c.has_next.result c.has_next.ensures c.loop-alloc-test.true in (
      c.in_ok-advance.ensures.is,
      front_more (map as_label c.args.labels.now) (left_in c.args.external.now c.args.replicas.now c.args.queue.now) (left_in c.args.external.now c.args.replicas.now c.loop-alloc.queue) (left_in c.args.external.now c.args.replicas.now c.advance.new.queue) (map chunk_of c.args.chunks.items) (map chunk_of c.loop-alloc.all.items)
          (map chunk_of c.in_ok-all.all.items) (next_in c.loop-alloc.queue) c.loop-alloc.invariant.1 c.in_ok-advance.ensures.left told.1
          (chunks_next c.loop-alloc.queue c.members.result.now c.as_slice.result.now (map chunk_of c.loop-alloc.all.items) (map chunk_of c.in_ok-all.all.items) c.members.ensures c.as_slice.ensures.value c.in_ok-all.ensures),
    )

pub loop-alloc-smaller : goal.loop-alloc-smaller
loop-alloc-smaller c =
    let told = has_next_told c.loop-alloc.queue (map as_label c.args.labels.now) c.has_next.result c.has_next.ensures c.loop-alloc-test.true in
    omega (arith, told.0, c.in_ok-advance.ensures.counted, c.in_ok-advance.ensures.as_many)

pub returns : goal.returns
returns c = record {
  is = c.loop-alloc.invariant.0;
  taken = front_ends c.args.external.now c.args.replicas.now c.loop-alloc.queue (map as_label c.args.labels.now) c.has_next.result (left_in c.args.external.now c.args.replicas.now c.args.queue.now) (map chunk_of c.args.chunks.items) (map chunk_of c.loop-alloc.all.items) c.loop-alloc.invariant.0 c.has_next.ensures c.loop-alloc-test.false c.loop-alloc.invariant.1;
}
