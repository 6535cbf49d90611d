use Rattle.std.proofs.Common.{rules}
use Rattle.index_parts.proofs.Moves.{end_within, start_within}
use Rattle.index_parts.proofs.sections.summed_content.Goals as goal

pub slice_bounds-at-end : goal.slice_bounds-at-end
slice_bounds-at-end c = search (rules, end_within)

pub at-requires : goal.at-requires
at-requires c = search (rules, start_within)
