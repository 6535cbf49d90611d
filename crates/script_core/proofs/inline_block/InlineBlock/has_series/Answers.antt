use Rattle.std.proofs.Common.{◌∙◌}
use Rattle.script_core.proofs.SeriesLists.{has_series_entries}
use Rattle.script_core.proofs.inline_block.InlineBlock.has_series.Goals as goal

pub returns : goal.returns
returns c = c.contains_key.ensures ∙ has_series_entries c.args.labels.now c.args.self.now.series.entries
