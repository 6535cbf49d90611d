use Rattle.std.proofs.Common.{rules}
use Rattle.std.proofs.lemmas.List.Sorted.{answers_always}
use Rattle.base.proofs.StableSorts.{in_order-from_sort}
use Rattle.block_merging.specs.Queues.{is_listed_before}
use Rattle.block_merging.proofs.QueueSteps.{listed_ranked}
use Rattle.block_merging.proofs.listing.sort_by_labels.Goals as goal

pub returns : goal.returns
returns c = in_order-from_sort is_listed_before listed_ranked _ _
    (c.in_ok-sort_by.ensures.sorted is_listed_before listed_ranked (answers_always _ _ _ (λ f a r g k. search rules)))
    (c.in_ok-sort_by.ensures.stable is_listed_before listed_ranked (answers_always _ _ _ (λ f a r g k. search rules)))
