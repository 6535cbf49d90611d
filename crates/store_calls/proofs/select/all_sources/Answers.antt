use Rattle.std.proofs.Common.{◌∙◌, ℕ, List, ap, eqb, subst}
use Rattle.std.proofs.lemmas.List.{take_all}
use Rattle.std.proofs.lemmas.List.Filters.{dedup_is}
use Rattle.store_ranges.specs.ChunkRanges.{IsSetOf}
use Rattle.store_ranges.proofs.Sorting.{set_of}
use Rattle.store_calls.specs.SeriesCalls.{sources_of}
use Rattle.store_calls.proofs.select.all_sources.Goals as goal

pub returns : goal.returns
returns c = subst (λ (l : List ℕ). IsSetOf l c.from_vec.result)
    (c.loop-block.invariant ∙ ap sources_of (take_all c.loop-block.block-index c.args.blocks.now c.loop-block-test.false))
    (set_of _ _ c.from_vec.result c.in_ok-sort.ensures.sorted c.in_ok-sort.ensures.permutation (c.from_vec.ensures ∙ dedup_is eqb _ _ c.dedup.ensures.filtered))
