use Rattle.world_core.proofs.PlanLaws.{one_end, same_op}
use Rattle.compactor.specs.Compactions.{compaction}
use Rattle.compactor.proofs.laws.compactions_have_one_end.Goals as goal

pub returns : goal.returns
returns c = record {
  end = λ rules. one_end (compaction rules);
  next = λ rules. same_op (compaction rules);
}
