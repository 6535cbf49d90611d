use Rattle.std.proofs.Common.{arith}
use Rattle.generated_day.specs.Day.{uploads_at, all_uploads_text}
use Rattle.generated_day.proofs.Parts.{part_more, part_end}
use Rattle.generated_day.proofs.day.put_all_uploads.Goals as goal

pub loop-block-preserved : goal.loop-block-preserved
loop-block-preserved c =
    part_more (uploads_at) _ _ _ c.loop-block.block 12 c.loop-block-test.true c.in_ok-put_uploads.ensures c.loop-block.invariant

pub returns : goal.returns
unfolding all_uploads_text
returns c = part_end (uploads_at) _ _ c.loop-block.block 12 (omega arith) c.loop-block.invariant
