use Rattle.std.proofs.Common.{◌∙◌}
use Rattle.store_ranges.proofs.Spans.{group_eq}
use Rattle.store_ranges.proofs.group_reads.group_to_read.Goals as goal

pub returns : goal.returns
returns c = group_eq c.args.references.now c.args.span c.saturating_sub.result c.from_vec.result c.requires.within c.saturating_sub.ensures
    (c.from_vec.ensures ∙ c.in_ok-from_slice.ensures.items)
