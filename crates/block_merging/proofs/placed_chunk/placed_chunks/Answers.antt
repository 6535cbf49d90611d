use Rattle.std.proofs.Common.{◌++◌, ◌∷◌, [], ap, ◌∙◌, arith}
use Rattle.std.proofs.lemmas.List.{take_all}
use Rattle.block_merging.specs.declared.input_chunk.InputChunk.{InputChunk}
use Rattle.block_merging.specs.Placed.{placed_from}
use Rattle.block_merging.proofs.PlacedOrders.{pushed_more, placed_length}
use Rattle.block_merging.proofs.placed_chunk.placed_chunks.Goals as goal

pub loop-place-preserved : goal.loop-place-preserved
loop-place-preserved c =
    pushed_more c.loop-place.place c.args.chunks.now c.index-chunks-place.result c.loop-place.made.items c.push.new.self.items c.loop-place-test.true c.loop-place.invariant
    (c.in_ok-push.ensures.items ∙ ap (λ (x : InputChunk). c.loop-place.made.items ++ record { chunk = x; place = c.loop-place.place } ∷ []) c.index-chunks-place.is)

pub returns : goal.returns
returns c = c.loop-place.invariant ∙ take_all c.loop-place.place (placed_from 0 c.args.chunks.now) (omega (arith, placed_length 0 c.args.chunks.now, c.loop-place-test.false))
