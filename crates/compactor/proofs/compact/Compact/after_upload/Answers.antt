use Rattle.std.proofs.Common.{arith}
use Rattle.world_core.proofs.LeadSteps.{falls_more}
use Rattle.compactor.proofs.compact.Compact.after_upload.Goals as goal

pub returns-in-Done-clause-falls : goal.returns-in-Done-clause-falls
returns-in-Done-clause-falls c = falls_more _ _ c.mark.result _ (omega arith) c.mark.ensures.falls
