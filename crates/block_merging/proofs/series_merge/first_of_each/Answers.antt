use Rattle.block_merging.proofs.OneMerge.{one_told}
use Rattle.block_merging.proofs.series_merge.first_of_each.Goals as goal

pub only_member-requires : goal.only_member-requires
only_member-requires c =
    one_told c.take.new.self c.new-merger.result _ _ c.args.labels.now c.args.samples.items c.in_ok-finish.field-0 c.new-merger.ensures c.in_ok-take.ensures.ok c.in_ok-copy.ensures c.from_vec.ensures c.requires c.in_ok-finish.ensures.merged
