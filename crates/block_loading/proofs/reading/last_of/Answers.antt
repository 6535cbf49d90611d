use Rattle.std.proofs.Common.{◌∙◌, ap, max, refl, arith}
use Rattle.block_loading.proofs.Greatest.{numbers_start, numbers_more, numbers_end}
use Rattle.block_loading.proofs.reading.last_of.Goals as goal

pub loop-place-init : goal.loop-place-init
loop-place-init c = numbers_start c.args.before c.args.chunks.now

pub loop-place-preserved : goal.loop-place-preserved
loop-place-preserved c = numbers_more c.args.before c.loop-place.last c.max-last.result c.args.chunks.now c.loop-place.place-index _ _ c.loop-place.invariant c.loop-place-test.true refl (c.max-last.ensures ∙ ap (max c.loop-place.last) c.file_number.ensures)

pub returns : goal.returns
returns c = numbers_end c.args.before c.loop-place.last c.args.chunks.now c.loop-place.place-index c.loop-place.invariant (omega arith)
