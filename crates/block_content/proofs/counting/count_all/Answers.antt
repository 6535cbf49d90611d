use Rattle.std.proofs.Common.{◌-◌, ◌^◌, min, List, sum_by, ap, ◌∙◌, arith}
use Rattle.index_parts.specs.declared.chunk_place.ChunkPlace.{ChunkPlace}
use Rattle.block_content.specs.ContentReading.{chunk_bytes}
use Rattle.block_content.proofs.ChunkWalks.{moved_stop, moved_read, walk_stops}
use Rattle.block_content.proofs.CountsSoFar.{all_start, all_step, all_stop, all_end, all_sum}
use Rattle.block_content.proofs.counting.count_all.Goals as goal

pub loop-one-init : goal.loop-one-init
loop-one-init c = record {
  counted = all_start c.args.meta.now c.args.segments.now c.args.indexed.now;
  kept = c.new-places.ensures c.args.meta.now c.args.segments.now;
}

pub returns-in_err-counted-clause-read : goal.returns-in_err-counted-clause-read
returns-in_err-counted-clause-read c = walk_stops c.args.segments.now c.args.indexed.now _ c.from_residual.result c.in_err-counted.field-0.0 c.from_residual.ensures.1
    (all_stop c.args.meta.now c.args.segments.now c.args.indexed.now c.loop-one.one-index c.loop-one.bytes c.loop-one.samples c.loop-one.series c.one-item.result _ c.loop-one.outside c.in_err-counted.field-0.0 c.loop-one.invariant.counted c.loop-one-test.true c.one-item.is
    (moved_stop c.args.segments.now c.loop-one.series c.chunks.result.now c.one-item.result.chunks c.in_err-counted.field-0.0 c.chunks.ensures c.in_err-counted.ensures.read))

pub loop-one-preserved : goal.loop-one-preserved
loop-one-preserved c = record {
  counted = all_step c.args.meta.now c.args.segments.now c.args.indexed.now c.loop-one.one-index c.loop-one.bytes c.saturating_add-bytes.result c.in_ok-counted.counted.bytes c.loop-one.samples c.saturating_add-samples.result c.loop-one.series c.saturating_add-series.result c.in_ok-counted.counted.samples c.one-item.result _ c.loop-one.outside c.found_or_this-outside.result c.in_ok-counted.counted.outside
      c.loop-one.invariant.counted c.loop-one-test.true c.one-item.is (moved_read c.args.segments.now c.chunks.result.now c.one-item.result.chunks _ c.chunks.ensures c.in_ok-counted.ensures.read) (omega (arith, c.saturating_add-samples.ensures)) c.found_or_this-outside.ensures
      (omega (arith, c.saturating_add-bytes.ensures)) (c.in_ok-counted.ensures.bytes ∙ ap (λ (chunks : List ChunkPlace). min (sum_by (chunk_bytes c.args.segments.now) chunks) (2 ^ 64 - 1)) c.chunks.ensures) (omega (arith, c.saturating_add-series.ensures));
  kept = c.in_ok-counted.ensures.kept;
}

pub returns-clause-read : goal.returns-clause-read
returns-clause-read c = all_end c.args.meta.now c.args.segments.now c.args.indexed.now c.loop-one.one-index c.loop-one.bytes c.loop-one.samples c.loop-one.series c.loop-one.outside c.loop-one.invariant.counted (omega arith)

pub returns-clause-bytes : goal.returns-clause-bytes
returns-clause-bytes c = all_sum c.args.meta.now c.args.segments.now c.args.indexed.now c.loop-one.one-index c.loop-one.bytes c.loop-one.samples c.loop-one.series c.loop-one.outside c.loop-one.invariant.counted (omega arith)
