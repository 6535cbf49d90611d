use Rattle.std.proofs.Common.{rules}
use Rattle.std.proofs.lemmas.List.Sorted.{answers_always}
use Rattle.base.proofs.StableSorts.{in_order-from_sort}
use Rattle.block_merging.specs.declared.placed_chunk.PlacedChunk.{PlacedChunk}
use Rattle.block_merging.specs.Placed.{stands_before}
use Rattle.block_merging.proofs.PlacedOrders.{stands_ranked}
use Rattle.block_merging.proofs.placed_chunk.sort_by_place.Goals as goal

pub returns : goal.returns
returns c = in_order-from_sort stands_before stands_ranked _ _
    (c.in_ok-sort_by_key.ensures.sorted (λ (s : PlacedChunk). s.place) (answers_always _ _ _ (λ f a r g k. search rules)))
    (c.in_ok-sort_by_key.ensures.stable (λ (s : PlacedChunk). s.place) (answers_always _ _ _ (λ f a r g k. search rules)))
