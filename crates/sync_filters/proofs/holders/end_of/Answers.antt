use Rattle.std.proofs.Common.{rules}
use Rattle.std.specs.Prelude.{nat_le}
use Rattle.std.proofs.lemmas.List.Sorted.{IsPartitionPoint-from_clause}
use Rattle.sync_filters.proofs.HolderPlaces.{partitioned_upto}
use Rattle.sync_filters.proofs.holders.end_of.Goals as goal

pub returns-clause-point : goal.returns-clause-point
returns-clause-point c = IsPartitionPoint-from_clause (λ one. nat_le one.key c.args.key) _ _ c.partition_point.ensures.partitioned
    (partitioned_upto c.args.holders.now c.args.key c.requires) (λ a r q k. search rules)
