use Rattle.std.proofs.Common.{◌∙◌, ℕ, List, ap, map, eqb, subst}
use Rattle.std.proofs.lemmas.List.{take_all}
use Rattle.std.proofs.lemmas.List.Filters.{dedup_is}
use Rattle.index_parts.specs.SeriesEntry.{reference_of}
use Rattle.store_ranges.specs.ChunkRanges.{IsSetOf}
use Rattle.store_ranges.proofs.Sorting.{set_of}
use Rattle.store_ranges.proofs.references.references_of.Goals as goal

pub returns : goal.returns
returns c = subst (λ (l : List ℕ). IsSetOf l c.from_vec.result)
    (c.loop-place.invariant ∙ ap (map reference_of) (take_all c.loop-place.place-index c.args.places.now c.loop-place-test.false))
    (set_of _ _ c.from_vec.result c.in_ok-sort.ensures.sorted c.in_ok-sort.ensures.permutation (c.from_vec.ensures ∙ dedup_is eqb _ _ c.dedup.ensures.filtered))
