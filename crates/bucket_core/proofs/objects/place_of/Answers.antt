use Rattle.std.proofs.Common.{rules}
use Rattle.std.proofs.lemmas.List.Sorted.{IsPartitionPoint-from_clause}
use Rattle.bucket_core.specs.Stored.{is_before}
use Rattle.bucket_core.proofs.Places.{partitioned, place_is}
use Rattle.bucket_core.proofs.objects.place_of.Goals as goal

pub returns : goal.returns
returns c =
    place_is c.args.key.now c.args.objects.now c.partition_point.result c.partition_point.ensures.bound
    (IsPartitionPoint-from_clause (is_before c.args.key.now) _ _ c.partition_point.ensures.partitioned
    (partitioned c.args.key.now c.args.objects.now c.requires) (λ a r q k. search rules))
