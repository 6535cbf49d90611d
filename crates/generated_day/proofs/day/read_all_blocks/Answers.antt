use Rattle.std.proofs.Common.{arith}
use Rattle.std.proofs.lemmas.Result.{err_from_is_err_and}
use Rattle.generated_day.specs.Day.{blocks_at, all_blocks_text}
use Rattle.generated_day.proofs.Parts.{no_parts, part_wants, reads_more, reads_end}
use Rattle.generated_day.proofs.day.read_all_blocks.Goals as goal

pub loop-block-init : goal.loop-block-init
loop-block-init c = no_parts (blocks_at c.args.number) c.args.reader.now 0 12

pub loop-block-preserved : goal.loop-block-preserved
loop-block-preserved c =
    reads_more (blocks_at c.args.number) _ _ _ c.loop-block.block 12 _ c.loop-block-test.true c.in_ok-read_blocks.ensures c.loop-block.invariant

pub returns-in_err-read_blocks : goal.returns-in_err-read_blocks
unfolding all_blocks_text
returns-in_err-read_blocks c =
    let p = err_from_is_err_and c.from_residual.result c.from_residual.ensures.1 in
    rw (p.1, p.2) (part_wants (blocks_at c.args.number) _ _ _ c.loop-block.block 12 c.in_err-read_blocks.field-0.0 c.loop-block-test.true c.in_err-read_blocks.ensures c.loop-block.invariant)

pub returns : goal.returns
unfolding all_blocks_text
returns c = reads_end (blocks_at c.args.number) _ _ _ c.loop-block.block 12 (omega arith) c.loop-block.invariant
