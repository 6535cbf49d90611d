use Rattle.std.proofs.Common.{refl, subst}
use Rattle.world_core.specs.Plans.{Runs}
use Rattle.compactor.specs.Reading.{block_of}
use Rattle.compactor.proofs.reads.Reads.start.Goals as goal

pub returns-clause-begun : goal.returns-clause-begun
returns-clause-begun c = (c.args.first, refl)

pub returns-clause-run : goal.returns-clause-run
returns-clause-run c = λ entries end last run. subst (λ l. Runs (block_of l c.args.others.items c.args.first) entries end) c.new.ensures run.0
