use Rattle.std.proofs.Common.{arith, length, ap}
use Rattle.block_merging.proofs.Rooms.{counted_more, counted_all}
use Rattle.block_merging.proofs.block_merge.bytes_of.Goals as goal

pub loop-segment-preserved : goal.loop-segment-preserved
loop-segment-preserved c =
    counted_more length c.args.segments.now c.loop-segment.segment-index c.loop-segment.bytes c.saturating_add-bytes.result c.segment-item.result _ c.loop-segment.invariant c.loop-segment-test.true c.segment-item.is
    (omega (arith, c.saturating_add-bytes.ensures, ap length c.bytes.ensures))

pub returns : goal.returns
returns c = counted_all length c.args.segments.now c.loop-segment.segment-index c.loop-segment.bytes c.loop-segment.invariant (omega (arith, c.loop-segment-test.false))
