use Rattle.meta_fetcher.specs.OneView.{to_plan, of_plan}
use Rattle.meta_fetcher.proofs.laws.syncs_are_plans.Goals as goal

pub returns : goal.returns
returns c = record {
  to = to_plan;
  of = of_plan;
}
