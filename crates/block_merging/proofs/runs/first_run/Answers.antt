use Rattle.std.proofs.Common.{w64, to_z, refl, ap, ◌∙◌}
use Rattle.std.specs.Prelude.{int_lt}
use Rattle.std.specs.Int.{int_max}
use Rattle.std.proofs.lemmas.Int.{to_z-of_z}
use Rattle.block_merging.specs.declared.placed_chunk.PlacedChunk.{PlacedChunk}
use Rattle.block_merging.proofs.Sweeps.{swept_more}
use Rattle.block_merging.proofs.runs.first_run.Goals as goal

pub loop-place-preserved : goal.loop-place-preserved
loop-place-preserved c =
    let at = c.index-chunks-place.is in
    swept_more c.args.chunks.now c.loop-place.place _ _ c.later_end-end.result _ c.index-chunks-place.result c.begins_behind.result c.requires.sorted c.loop-place-test.true c.loop-place.invariant refl
    (c.begins_behind.ensures ∙ ap (λ (x : PlacedChunk). int_lt (to_z w64 c.loop-place.end-bits) x.chunk.min) at) c.if-begins_behind.false (c.later_end-end.ensures ∙ ap (λ (x : PlacedChunk). int_max (to_z w64 c.loop-place.end-bits) x.chunk.max) at) (to_z-of_z w64 c.later_end-end.result (record { sfits = c.later_end-end.type_inv }))
