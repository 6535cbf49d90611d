use Rattle.std.proofs.Common.{refl, ap, ◌∙◌, arith}
use Rattle.base.specs.Firsts.{or_else}
use Rattle.block_content.proofs.CountsSoFar.{counted_start, counted_step, counted_stopped, counted_sum}
use Rattle.block_content.proofs.counting.count_series.Goals as goal

pub loop-place-init : goal.loop-place-init
loop-place-init c = record { counted = counted_start c.args.meta.now c.args.segments.now c.args.chunks.now; kept = c.requires }

pub returns-in-Err-clause-read : goal.returns-in-Err-clause-read
returns-in-Err-clause-read c = counted_stopped c.args.meta.now c.args.segments.now c.args.chunks.now c.loop-place.place-index c.loop-place.bytes c.loop-place.samples c.loop-place.chunk c.args.series _ _ c.loop-place.outside c.in-Err.cause c.refused_chunk.result c.loop-place.invariant.counted c.loop-place-test.true refl
    c.in-Err.ensures.counted c.refused_chunk.ensures

pub loop-place-preserved : goal.loop-place-preserved
loop-place-preserved c =
    let counted = c.in-Ok.ensures.counted in
    record {
      counted = counted_step c.args.meta.now c.args.segments.now c.args.chunks.now c.loop-place.place-index c.loop-place.bytes c.saturating_add-bytes.result c.in-Ok.counted.bytes c.loop-place.samples c.saturating_add-samples.result c.loop-place.chunk c.saturating_add-chunk.result c.in-Ok.counted.samples _ _ c.loop-place.outside c.found_or_time-outside.result counted.0
          c.loop-place.invariant.counted c.loop-place-test.true refl counted.1
          (omega (arith, c.saturating_add-samples.ensures)) counted.2.0
          (c.found_or_time-outside.ensures ∙ ap (or_else c.loop-place.outside) counted.2.1) (omega (arith, c.saturating_add-bytes.ensures)) c.in-Ok.ensures.bytes (omega (arith, c.saturating_add-chunk.ensures));
      kept = c.in-Ok.ensures.kept;
    }

pub returns-clause-bytes : goal.returns-clause-bytes
returns-clause-bytes c = counted_sum c.args.meta.now c.args.segments.now c.args.chunks.now c.loop-place.place-index c.loop-place.bytes c.loop-place.samples c.loop-place.chunk c.loop-place.outside c.loop-place.invariant.counted (omega arith)
