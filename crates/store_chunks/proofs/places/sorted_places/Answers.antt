use Rattle.std.proofs.Common.{rules}
use Rattle.std.proofs.lemmas.List.Sorted.{IsNonDecreasingBy-from_sort_by_key}
use Rattle.index_parts.specs.SeriesEntry.{reference_of}
use Rattle.store_chunks.proofs.places.sorted_places.Goals as goal

pub returns-clause-ascend : goal.returns-clause-ascend
returns-clause-ascend c = IsNonDecreasingBy-from_sort_by_key (λ place. reference_of place) _ c.in_ok-sort_by_key.ensures.sorted (λ a r q k. search rules)
