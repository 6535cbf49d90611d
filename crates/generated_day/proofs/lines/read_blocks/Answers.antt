use Rattle.std.proofs.lemmas.Result.{err_from_is_err_and}
use Rattle.generated_day.specs.Day.{block_text, blocks_at}
use Rattle.generated_day.proofs.Wanting.{both_end, first_wants}
use Rattle.generated_day.proofs.lines.read_blocks.Goals as goal

pub returns-in_err-read_block : goal.returns-in_err-read_block
unfolding blocks_at
returns-in_err-read_block c =
    let p = err_from_is_err_and c.from_residual.result c.from_residual.ensures.1 in
    rw (p.1, p.2) (first_wants c.args.reader.now (block_text c.args.number c.args.block 0) c.in_err-read_block.field-0.0 (block_text c.args.number c.args.block 1) c.in_err-read_block.ensures)

pub returns : goal.returns
unfolding blocks_at
returns c =
    both_end c.read_block.new.reader c.read_block-2.new.reader (block_text c.args.number c.args.block 1) c.read_block-2.result c.args.reader.now (block_text c.args.number c.args.block 0) c.in_ok-read_block.ensures c.read_block-2.ensures
