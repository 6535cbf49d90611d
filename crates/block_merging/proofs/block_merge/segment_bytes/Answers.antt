use Rattle.std.proofs.Common.{arith, length, sum_by, ap}
use Rattle.block_merging.proofs.Rooms.{counted_more, counted_all}
use Rattle.block_merging.proofs.block_merge.segment_bytes.Goals as goal

pub loop-block-preserved : goal.loop-block-preserved
loop-block-preserved c =
    counted_more (λ block. sum_by length block.segments) c.args.inputs.now c.loop-block.block-index c.loop-block.bytes c.saturating_add-bytes.result c.block-item.result _ c.loop-block.invariant c.loop-block-test.true c.block-item.is
    (omega (arith, c.saturating_add-bytes.ensures, c.bytes_of.ensures, ap (sum_by length) c.members.ensures))

pub returns : goal.returns
returns c = counted_all (λ block. sum_by length block.segments) c.args.inputs.now c.loop-block.block-index c.loop-block.bytes c.loop-block.invariant (omega (arith, c.loop-block-test.false))
