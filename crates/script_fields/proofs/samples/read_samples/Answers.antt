use Rattle.base.proofs.Bound.{of_gives}
use Rattle.script_fields.proofs.SampleLists.{samples_few}
use Rattle.script_fields.proofs.samples.read_samples.Goals as goal

pub returns-clause-few : goal.returns-clause-few
returns-clause-few c = of_gives _ _ _ (samples_few _) c.all_samples.ensures
