use Rattle.report_lines.proofs.Adding.{more_tallied}
use Rattle.report_lines.proofs.tally.TallyReport.add.Goals as goal

pub returns : goal.returns
returns c = λ tasks outcomes are.
    more_tallied c.args.self.now c.tell.new.self c.args.script.now c.args.task.now c.args.outcome.now tasks outcomes c.tell.result are c.tell.ensures.asked c.tell.ensures.amiss c.tell.ensures.sums c.tell.ensures.answers
