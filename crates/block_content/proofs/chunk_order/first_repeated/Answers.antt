use Rattle.std.proofs.Common.{arith}
use Rattle.block_content.specs.ContentReading.{repeated_in}
use Rattle.block_content.proofs.Findings.{yet_start, yet_step, yet_stop, follows, follows_not}
use Rattle.block_content.proofs.chunk_order.first_repeated.Goals as goal

pub loop-one-init : goal.loop-one-init
loop-one-init c = yet_start repeated_in c.args.indexed.now

pub returns-then-not-follow : goal.returns-then-not-follow
returns-then-not-follow c = yet_stop repeated_in c.args.indexed.now c.loop-one.one-index c.loop-one.series c.one-item.result _ tt c.loop-one.invariant c.loop-one-test.true c.one-item.is (follows_not c.one-item.result c.chunks.result.now c.follow.result c.chunks.ensures c.follow.ensures c.if-not-follow.true)

pub loop-one-preserved : goal.loop-one-preserved
loop-one-preserved c = yet_step repeated_in c.args.indexed.now c.loop-one.one-index c.loop-one.series c.saturating_add-series.result c.one-item.result _ c.loop-one.invariant c.loop-one-test.true c.one-item.is (follows c.one-item.result c.chunks.result.now c.follow.result c.chunks.ensures c.follow.ensures c.if-not-follow.false) (omega (arith, c.saturating_add-series.ensures))
