use Rattle.label_sets.proofs.Signs.{signs_at}
use Rattle.label_sets.proofs.sample_text.sign_pair.Goals as goal

pub returns-clause-high : goal.returns-clause-high
returns-clause-high c = (signs_at _ c.requires).0

pub returns-clause-low : goal.returns-clause-low
returns-clause-low c = (signs_at _ c.requires).1
