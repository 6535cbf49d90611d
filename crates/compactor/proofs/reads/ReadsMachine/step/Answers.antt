use Rattle.std.proofs.Common.{sym, ◌∙◌}
use Rattle.compactor.specs.declared.reads.ReadStage.TheVariants.{Indexing, Segmenting}
use Rattle.compactor.proofs.ReadSteps.{read_steps}
use Rattle.compactor.proofs.reads.ReadsMachine.step.Goals as goal

pub returns-in-Indexing-clause-goes_on : goal.returns-in-Indexing-clause-goes_on
returns-in-Indexing-clause-goes_on c = λ seat op asks.
    read_steps c.args.self.now c.after_index.new.self c.after_index.result c.after_index.ensures.fits (Indexing c.in-Indexing.meta) (sym c.replace-stage.ensures.value ∙ c.in-Indexing.is) seat op c.args.seen asks (c.after_index.ensures.leads seat op)

pub returns-in-Segmenting-clause-goes_on : goal.returns-in-Segmenting-clause-goes_on
returns-in-Segmenting-clause-goes_on c = λ seat op asks.
    read_steps c.args.self.now c.after_segment.new.self c.after_segment.result c.after_segment.ensures.fits (Segmenting c.in-Segmenting.input c.in-Segmenting.more) (sym c.replace-stage.ensures.value ∙ c.in-Segmenting.is) seat op c.args.seen asks (c.after_segment.ensures.leads seat op)
