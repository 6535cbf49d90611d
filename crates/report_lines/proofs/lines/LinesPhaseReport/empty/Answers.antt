use Rattle.report_lines.proofs.ToldLines.{no_lines}
use Rattle.report_lines.proofs.lines.LinesPhaseReport.empty.Goals as goal

pub returns : goal.returns
returns c = λ script. no_lines c.new.result script c.new.ensures
