use Rattle.std.proofs.Common.{◌∙◌}
use Rattle.store_chunks.proofs.row_shown.series_of.Goals as goal

pub returns : goal.returns
returns c = (c.in_ok-labels.ensures, c.from_vec.ensures ∙ c.shrink_to_fit.ensures.items)
