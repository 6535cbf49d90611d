use Rattle.report_lines.proofs.ToldLines.{more_told}
use Rattle.report_lines.proofs.lines.LinesReport.add.Goals as goal

pub returns : goal.returns
returns c = λ tasks outcomes are.
    more_told c.args.self.now c.tell.new.self c.args.script.now c.args.task.now c.args.outcome.now tasks outcomes c.tell.result are c.tell.ensures.text c.tell.ensures.asked
