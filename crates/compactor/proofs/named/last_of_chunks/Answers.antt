use Rattle.std.proofs.Common.{◌∙◌, ap, max, refl, arith}
use Rattle.compactor.proofs.LastNamed.{chunks_start, chunks_more, chunks_end}
use Rattle.compactor.proofs.named.last_of_chunks.Goals as goal

pub loop-place-init : goal.loop-place-init
loop-place-init c = chunks_start c.args.before c.args.chunks.now

pub loop-place-preserved : goal.loop-place-preserved
loop-place-preserved c = chunks_more c.args.before c.loop-place.last c.max-last.result c.args.chunks.now c.loop-place.place-index _ _ c.loop-place.invariant c.loop-place-test.true refl (c.max-last.ensures ∙ ap (max c.loop-place.last) c.number_of.ensures)

pub returns : goal.returns
returns c = chunks_end c.args.before c.loop-place.last c.args.chunks.now c.loop-place.place-index c.loop-place.invariant (omega arith)
