use Rattle.std.proofs.Common.{rules}
use Rattle.std.proofs.lemmas.List.Sorted.{IsPartitionPoint-from_clause}
use Rattle.label_sets.specs.Labels.{is_lesser_text}
use Rattle.index_writing.proofs.SortedTexts.{partitioned, number_found}
use Rattle.index_writing.proofs.symbols_in_use.number_of.Goals as goal

pub returns : goal.returns
returns c =
    number_found _ _ _ c.partition_point.ensures.bound
    (IsPartitionPoint-from_clause (λ symbol. is_lesser_text symbol c.args.text.now) _ _ c.partition_point.ensures.partitioned (partitioned _ _ c.requires) (λ a r f k. search rules))
