use Rattle.std.proofs.Common.{rules}
use Rattle.std.proofs.lemmas.List.Sorted.{answers_always}
use Rattle.group_planner.specs.Cuts.{has_lesser_key}
use Rattle.group_planner.proofs.KeyOrders.{keyed_ranked}
use Rattle.group_planner.proofs.keyed.sort_by_key.Goals as goal

pub returns-clause-sorted : goal.returns-clause-sorted
returns-clause-sorted c = c.in_ok-sort_by.ensures.sorted has_lesser_key keyed_ranked (answers_always _ _ _ (λ f a r g k. search rules))

pub returns-clause-stable : goal.returns-clause-stable
returns-clause-stable c = c.in_ok-sort_by.ensures.stable has_lesser_key keyed_ranked (answers_always _ _ _ (λ f a r g k. search rules))
