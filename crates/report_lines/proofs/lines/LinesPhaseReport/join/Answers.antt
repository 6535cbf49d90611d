use Rattle.report_lines.proofs.ToldLines.{joined_lines, kept_lines}
use Rattle.report_lines.proofs.lines.LinesPhaseReport.join.Goals as goal

pub returns-clause-joined : goal.returns-clause-joined
returns-clause-joined c = λ script done tasks first later one two.
    joined_lines c.args.self.now c.args.more c.take.new.self script done tasks first later c.take.result one two c.take.ensures.text c.take.ensures.asked

pub returns-clause-kept : goal.returns-clause-kept
returns-clause-kept c = λ script done first one. kept_lines c.args.self.now c.take.new.self script done first c.take.result one c.take.ensures.kept
