use Rattle.std.proofs.Common.{rules}
use Rattle.std.proofs.lemmas.List.Sorted.{answers_always}
use Rattle.sync_filters.specs.Holders.{comes_before}
use Rattle.sync_filters.proofs.HolderPlaces.{ranked}
use Rattle.sync_filters.proofs.holders.sort.Goals as goal

pub returns-clause-sorted : goal.returns-clause-sorted
returns-clause-sorted c = c.in_ok-sort_by.ensures.sorted comes_before ranked (answers_always _ _ _ (λ f a r g k. search rules))
