use Rattle.std.proofs.Common.{rules}
use Rattle.std.proofs.lemmas.List.Sorted.{IsPartitionPoint-from_clause}
use Rattle.sync_filters.specs.Holders.{is_larger}
use Rattle.sync_filters.proofs.HolderPlaces.{partitioned_larger}
use Rattle.sync_filters.proofs.holders.end_of_larger.Goals as goal

pub returns-clause-point : goal.returns-clause-point
returns-clause-point c = IsPartitionPoint-from_clause (is_larger c.args.key c.args.least) _ _ c.partition_point.ensures.partitioned
    (partitioned_larger c.args.holders.now c.args.key c.args.least c.requires) (λ a r q k. search rules)
