use Rattle.std.proofs.Common.{◌≢◌, [], rules}
use Rattle.std.proofs.lemmas.List.Sorted.{answers_always, All-permutation}
use Rattle.vertical_merge.specs.Joined.{has_lesser_labels}
use Rattle.vertical_merge.proofs.Orders.{labels_ranked}
use Rattle.vertical_merge.proofs.merger.sort_by_labels.Goals as goal

pub returns-clause-sorted : goal.returns-clause-sorted
returns-clause-sorted c = c.in_ok-sort_by.ensures.sorted has_lesser_labels labels_ranked (answers_always _ _ _ (λ f a r g k. search rules))

pub returns-clause-stable : goal.returns-clause-stable
returns-clause-stable c = c.in_ok-sort_by.ensures.stable has_lesser_labels labels_ranked (answers_always _ _ _ (λ f a r g k. search rules))

pub returns-clause-inhabited : goal.returns-clause-inhabited
returns-clause-inhabited c = All-permutation (λ s. s.samples ≢ []) _ _ c.in_ok-sort_by.ensures.permutation
