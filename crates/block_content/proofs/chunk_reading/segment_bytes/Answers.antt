use Rattle.std.proofs.Common.{ℕ, ◌-◌, ◌^◌, min, length, refl, ap, subst, ◌∙◌, arith}
use Rattle.std.specs.List.{AllByRecursion}
use Rattle.std.proofs.lemmas.List.{take_all}
use Rattle.base.specs.Grammar.{IsBytes}
use Rattle.block_content.proofs.ChunkWalks.{bytes_step, sum_more, sum_end}
use Rattle.block_content.proofs.chunk_reading.segment_bytes.Goals as goal

pub loop-segment-init : goal.loop-segment-init
loop-segment-init c = record { value = refl; are = tt }

pub loop-segment-preserved : goal.loop-segment-preserved
loop-segment-preserved c = record {
  value = sum_more length c.args.segments.now c.loop-segment.segment-index c.segment-item.result _ c.loop-segment.bytes c.saturating_add-bytes.result c.length_of.result c.loop-segment.invariant.value c.loop-segment-test.true c.segment-item.is
      (omega (arith, c.saturating_add-bytes.ensures)) (ap (λ (n : ℕ). min n (2 ^ 64 - 1)) (c.length_of.ensures.value ∙ ap length c.bytes.ensures));
  are = bytes_step c.args.segments.now c.loop-segment.segment-index c.segment-item.result _ c.bytes.result.now c.loop-segment.invariant.are c.loop-segment-test.true c.segment-item.is c.bytes.ensures c.length_of.ensures.bytes;
}

pub returns-clause-value : goal.returns-clause-value
returns-clause-value c = sum_end length c.args.segments.now c.loop-segment.segment-index c.loop-segment.bytes c.loop-segment.invariant.value (omega arith)

pub returns-clause-bytes : goal.returns-clause-bytes
returns-clause-bytes c = subst (AllByRecursion IsBytes) (take_all c.loop-segment.segment-index c.args.segments.now (omega arith)) c.loop-segment.invariant.are
