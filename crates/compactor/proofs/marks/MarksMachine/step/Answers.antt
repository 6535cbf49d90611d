use Rattle.compactor.specs.declared.marks.MarkStage.TheVariants.{Looking, Putting}
use Rattle.compactor.proofs.MarkSteps.{mark_steps}
use Rattle.compactor.proofs.marks.MarksMachine.step.Goals as goal

pub returns-in-Looking-clause-goes_on : goal.returns-in-Looking-clause-goes_on
returns-in-Looking-clause-goes_on c = λ seat op asks.
    mark_steps c.args.self.now c.after_look.new.self c.after_look.result (Looking c.in-Looking.ulid) c.in-Looking.is seat op c.args.seen asks (c.after_look.ensures.leads seat op)

pub returns-in-Putting-clause-goes_on : goal.returns-in-Putting-clause-goes_on
returns-in-Putting-clause-goes_on c = λ seat op asks.
    mark_steps c.args.self.now c.after_put.new.self c.after_put.result (Putting c.in-Putting.ulid c.in-Putting.looked) c.in-Putting.is seat op c.args.seen asks (c.after_put.ensures.leads seat op)
