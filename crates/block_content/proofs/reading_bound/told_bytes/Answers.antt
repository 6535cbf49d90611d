use Rattle.std.proofs.Common.{get_or, refl, ap, arith}
use Rattle.block_content.specs.Named.{counted}
use Rattle.block_content.specs.ReadBytes.{told_there}
use Rattle.block_content.proofs.ChunkWalks.{sum_more, sum_end}
use Rattle.block_content.proofs.reading_bound.told_bytes.Goals as goal

pub loop-number-init : goal.loop-number-init
loop-number-init c = refl

pub loop-number-preserved : goal.loop-number-preserved
loop-number-preserved c =
    sum_more (told_there c.args.segments.now) c.args.numbers.now c.loop-number.number-index (get_or c.args.numbers.now c.loop-number.number-index _) _ c.loop-number.bytes c.saturating_add-bytes.result c.told_there.result c.loop-number.invariant c.loop-number-test.true refl (omega (arith, c.saturating_add-bytes.ensures))
    (ap counted c.told_there.ensures)

pub returns : goal.returns
returns c = sum_end (told_there c.args.segments.now) c.args.numbers.now c.loop-number.number-index c.loop-number.bytes c.loop-number.invariant (omega arith)
