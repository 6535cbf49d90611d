use Rattle.std.proofs.Common.{refl, arith}
use Rattle.block_content.proofs.Findings.{follow_step, follow_stop, follow_end}
use Rattle.block_content.proofs.chunk_order.follow.Goals as goal

pub loop-chunk-preserved : goal.loop-chunk-preserved
loop-chunk-preserved c = follow_step _ _ c.loop-chunk.chunk-index _ _ _ c.loop-chunk.invariant c.loop-chunk-test.true refl c.begins_after.ensures c.if-not-begins_after.false

pub returns-then-not-begins_after : goal.returns-then-not-begins_after
returns-then-not-begins_after c = follow_stop _ _ c.loop-chunk.chunk-index _ _ _ c.loop-chunk.invariant c.loop-chunk-test.true refl c.begins_after.ensures c.if-not-begins_after.true

pub returns : goal.returns
returns c = follow_end _ _ c.loop-chunk.chunk-index c.loop-chunk.invariant (omega arith)
