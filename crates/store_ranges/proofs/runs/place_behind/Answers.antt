use Rattle.std.proofs.Common.{rules}
use Rattle.std.specs.Prelude.{nat_le}
use Rattle.std.proofs.lemmas.List.Sorted.{IsPartitionPoint-from_clause, IsPartitionedBy-leb}
use Rattle.std.proofs.lemmas.Map.Keys.{sorted_from_strictly_increasing, non_decreasing_from_sorted}
use Rattle.store_ranges.proofs.Behind.{behind_it, behind_point}
use Rattle.store_ranges.proofs.runs.place_behind.Goals as goal

pub returns-then-all-likely : goal.returns-then-all-likely
returns-then-all-likely c = behind_it c.args.number c.args.all.now c.args.likely c.requires c.if-likely-all.true c.if-all-likely.true

pub returns : goal.returns
returns c = behind_point c.args.number c.args.all.now c.partition_point.result
    (IsPartitionPoint-from_clause (λ one. nat_le one c.args.number) _ _ c.partition_point.ensures.partitioned
    (IsPartitionedBy-leb (λ n. n) c.args.all.now c.args.number (non_decreasing_from_sorted c.args.all.now (sorted_from_strictly_increasing c.args.all.now c.requires)))
    (λ a r q k. search rules))
