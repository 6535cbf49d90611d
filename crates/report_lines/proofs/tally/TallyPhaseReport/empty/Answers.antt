use Rattle.report_lines.proofs.Adding.{none_tallied}
use Rattle.report_lines.proofs.tally.TallyPhaseReport.empty.Goals as goal

pub returns : goal.returns
returns c = λ script. none_tallied c.new.result script c.new.ensures.asked c.new.ensures.amiss c.new.ensures.sums c.new.ensures.answers
