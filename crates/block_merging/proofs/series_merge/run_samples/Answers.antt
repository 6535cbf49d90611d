use Rattle.std.proofs.Common.{◌≡◌, ◌++◌, List, ◌∙◌, ap, subst}
use Rattle.base.specs.Ordered.{in_order}
use Rattle.block_merging.specs.Placed.{stands_before}
use Rattle.label_sets.specs.declared.sample.Sample.{Sample}
use Rattle.xor_chunks.specs.Grammar.{IsText}
use Rattle.block_merging.specs.declared.placed_chunk.PlacedChunk.{PlacedChunk}
use Rattle.block_merging.proofs.Putting.{read_more, readable_here}
use Rattle.block_merging.proofs.series_merge.run_samples.Goals as goal

pub loop-one-preserved : goal.loop-one-preserved
loop-one-preserved c =
    read_more c.as_slice-one-items.result.now c.loop-one.one-index c.one-item.result c.loop-one.samples.items c.in_ok-samples.samples.items c.loop-one-test.true c.loop-one.invariant
    (subst (λ (x : PlacedChunk). (read : List Sample) × IsText 8 x.chunk.bytes.now read × (c.in_ok-samples.samples.items ≡ c.loop-one.samples.items ++ read)) c.one-item.is c.in_ok-samples.ensures)

pub append_samples-requires : goal.append_samples-requires
append_samples-requires c =
    readable_here c.args.run.now c.as_slice-one-items.result.now c.loop-one.one-index c.one-item.result _ c.requires (c.as_slice-one-items.ensures.value ∙ c.in_ok-sort_by_place.ensures ∙ ap (in_order stands_before) c.in_ok-chunks.ensures.items) c.loop-one-test.true c.one-item.is
