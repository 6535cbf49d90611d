use Rattle.std.proofs.Common.{◌∙◌, ap, map, refl}
use Rattle.script_core.specs.State.{series_of}
use Rattle.script_core.proofs.SeriesLists.{insert_series_entries}
use Rattle.script_core.proofs.inline_block.InlineBlock.insert_series.Goals as goal

pub returns : goal.returns
returns c =
    let put = ap (map series_of) c.in_ok-insert.ensures.entries ∙ insert_series_entries c.args.series.labels c.args.series.samples c.args.self.now.series.entries in
    rw put refl
