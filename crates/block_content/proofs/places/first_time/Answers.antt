use Rattle.std.proofs.Common.{refl, ap, ◌∙◌, Some, ℤ, arith}
use Rattle.std.specs.Int.{w64}
use Rattle.std.proofs.lemmas.Int.{to_z-of_z}
use Rattle.block_content.proofs.Findings.{time_start, time_step, time_stop, time_end}
use Rattle.block_content.proofs.places.first_time.Goals as goal

pub loop-sample-init : goal.loop-sample-init
loop-sample-init c = time_start c.args.meta.now c.args.samples.now

pub loop-sample-preserved : goal.loop-sample-preserved
loop-sample-preserved c = time_step c.args.meta.now c.args.samples.now c.loop-sample.sample-index _ _ _ c.loop-sample.invariant c.loop-sample-test.true refl c.is_of_block.ensures c.if-not-is_of_block.false

pub returns-then-not-is_of_block-clause-value : goal.returns-then-not-is_of_block-clause-value
returns-then-not-is_of_block-clause-value c =
    ap (λ (t : ℤ). Some t) (to_z-of_z w64 c.time_of.result c.time_of.ensures.fits ∙ c.time_of.ensures.value)
    ∙ time_stop c.args.meta.now c.args.samples.now c.loop-sample.sample-index _ _ _ c.loop-sample.invariant c.loop-sample-test.true refl c.is_of_block.ensures c.if-not-is_of_block.true

pub returns-clause-value : goal.returns-clause-value
returns-clause-value c = time_end c.args.meta.now c.args.samples.now c.loop-sample.sample-index c.loop-sample.invariant (omega arith)
