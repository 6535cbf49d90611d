use Rattle.std.proofs.Common.{rules}
use Rattle.std.proofs.lemmas.List.Sorted.{IsPartitionPoint-from_clause}
use Rattle.vertical_merge.specs.Joined.{has_lesser_time}
use Rattle.vertical_merge.proofs.TimesMerged.{front_before, partitioned}
use Rattle.vertical_merge.proofs.sample_merge.start_of.Goals as goal

pub returns-clause-before : goal.returns-clause-before
returns-clause-before c = front_before _ _ c.partition_point.result c.in-Some.first.now c.requires.others c.partition_point.ensures.bound (search rules)
    (IsPartitionPoint-from_clause (λ s. has_lesser_time s c.in-Some.first.now) _ _ c.partition_point.ensures.partitioned (partitioned _ c.in-Some.first.now c.requires.ascend) (λ a r f k. search rules))
