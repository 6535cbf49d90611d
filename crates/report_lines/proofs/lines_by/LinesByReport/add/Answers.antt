use mathlib.Core.Logic.{∥∥₁_elim}
use Rattle.report_lines.proofs.ToldLines.{more_told}
use Rattle.report_lines.proofs.lines_by.LinesByReport.add.Goals as goal

pub tell-requires : goal.tell-requires
tell-requires g c = record { way = ∥∥₁_elim c.args.self.now.able (g.met.W.SeriesWay.one_proof c.args.self.now.way) (λ able. able) }

pub returns : goal.returns
returns g c = λ tasks outcomes are.
    more_told c.args.self.now.lines c.tell.new.self c.args.script.now c.args.task.now c.args.outcome.now tasks outcomes c.tell.result are c.tell.ensures.text c.tell.ensures.asked
