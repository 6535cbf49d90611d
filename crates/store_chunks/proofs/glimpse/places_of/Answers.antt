use Rattle.std.proofs.Common.{rules}
use Rattle.std.specs.Prelude.{nat_lt, nat_le}
use Rattle.std.proofs.lemmas.List.Sorted.{IsPartitionPoint-from_clause, IsPartitionedBy-leb, IsPartitionedBy-ltb, IsNonDecreasingBy-drop, IsNonDecreasingBy-take}
use Rattle.index_parts.specs.SeriesEntry.{reference_of}
use Rattle.store_chunks.proofs.Between.{between_parts}
use Rattle.store_chunks.proofs.glimpse.places_of.Goals as goal

pub returns : goal.returns
returns c = λ up. between_parts reference_of c.args.reference c.args.places.now c.partition_point-start.result c.partition_point-end.result
    (IsPartitionPoint-from_clause (λ place. nat_lt (reference_of place) c.args.reference) _ _ c.partition_point-start.ensures.partitioned
    (IsPartitionedBy-ltb reference_of _ c.args.reference up) (λ a r q k. search rules))
    (IsPartitionPoint-from_clause (λ place. nat_le (reference_of place) c.args.reference) _ _ c.partition_point-end.ensures.partitioned
    (IsPartitionedBy-leb reference_of _ c.args.reference (IsNonDecreasingBy-take reference_of _ _ (IsNonDecreasingBy-drop reference_of _ c.args.places.now up))) (λ a r q k. search rules))
