use Rattle.std.proofs.Common.{sym, ◌∙◌}
use Rattle.compactor.specs.declared.reads.ReadStage.TheVariants.{Fresh}
use Rattle.compactor.proofs.ReadSteps.{read_opens}
use Rattle.compactor.proofs.reads.ReadsMachine.first.Goals as goal

pub returns : goal.returns
returns c = read_opens c.args.self.now c.ask_index.new.self c.ask_index.result c.ask_index.ensures.fits (Fresh c.in-Fresh.meta) (sym c.replace-stage.ensures.value ∙ c.in-Fresh.is) c.ask_index.ensures.leads
