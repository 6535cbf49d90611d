use Rattle.report_lines.proofs.Adding.{joined_tallied, kept_tallied}
use Rattle.report_lines.proofs.tally.TallyPhaseReport.join.Goals as goal

pub returns-clause-joined : goal.returns-clause-joined
returns-clause-joined c = λ script done tasks first later one two.
    joined_tallied c.args.self.now c.args.more c.take.new.self script done tasks first later c.take.result one two c.take.ensures.asked c.take.ensures.amiss c.take.ensures.sums c.take.ensures.answers

pub returns-clause-kept : goal.returns-clause-kept
returns-clause-kept c = λ script done first one. kept_tallied c.args.self.now c.take.new.self script done first c.take.result one c.take.ensures.kept
