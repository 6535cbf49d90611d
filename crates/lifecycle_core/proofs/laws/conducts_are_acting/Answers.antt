use Rattle.lifecycle_core.proofs.phases.Acted.{conduct_acts}
use Rattle.lifecycle_core.proofs.laws.conducts_are_acting.Goals as goal

pub returns : goal.returns
returns g c = λ setting seats journal before ends numbered has kept run. conduct_acts setting seats (g.W.Working.conduct setting) has numbered journal before ends kept run
