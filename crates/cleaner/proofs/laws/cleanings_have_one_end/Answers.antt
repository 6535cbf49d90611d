use Rattle.world_core.proofs.PlanLaws.{one_end, same_op}
use Rattle.cleaner.specs.Cleanings.{cleaning}
use Rattle.cleaner.proofs.laws.cleanings_have_one_end.Goals as goal

pub returns : goal.returns
returns c = record {
  end = λ rules. one_end (cleaning rules);
  asks = λ rules. same_op (cleaning rules);
}
