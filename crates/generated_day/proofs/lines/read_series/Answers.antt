use Rattle.std.proofs.Common.{◌∙◌}
use Rattle.generated_day.specs.Day.{labels_text}
use Rattle.generated_day.proofs.Parts.{from_none}
use Rattle.generated_day.proofs.Readings.{line_end}
use Rattle.generated_day.proofs.lines.read_series.Goals as goal

pub returns : goal.returns
returns c =
    let labels = c.as_slice.ensures.value ∙ from_none _ _ (labels_text c.args.series) c.new-labels.ensures.items c.in_ok-put_labels.ensures in
    line_end c.args.reader.now c.read_series.new.self _ c.in_ok-samples.samples c.args.number c.args.block c.args.replica c.args.series c.read_series.result c.requires.block c.requires.series labels c.in_ok-samples.ensures c.read_series.ensures.read c.read_series.ensures.refused
