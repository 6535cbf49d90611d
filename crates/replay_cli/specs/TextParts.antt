-- Parts of a text, which are put beside each other.
use Rattle.std.specs.Prelude.{◌≡◌, List, ◌++◌, OnOk}
use Rattle.std.specs.List.{flat_map}
use Rattle.label_sets.specs.declared.series.Series.{Series}
use Rattle.call_verdicts.specs.report_lines.specs.Reports.{series_line}
use Rattle.replay_cli.specs.declared.text_parts.TextPart.{TextPart}

abbrev pub series_in : TextPart → List Series
series_in part = part.series.now

-- The lines of the part's series were put behind its text, unless memory ran out.
pub record IsPut (old new : TextPart) : Type 0 where
  pub same : new.series ≡ old.series
  pub put : OnOk new.came (new.text.items ≡ old.text.items ++ flat_map series_line (series_in old))
