use Rattle.compactor.specs.declared.marks.MarkStage.TheVariants.{Fresh}
use Rattle.compactor.proofs.MarkSteps.{mark_opens}
use Rattle.compactor.proofs.marks.MarksMachine.first.Goals as goal

pub returns : goal.returns
returns c = mark_opens c.args.self.now c.look_next.new.self c.look_next.result Fresh c.requires c.look_next.ensures.leads
