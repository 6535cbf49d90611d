use Rattle.script_core.proofs.SeatLaws.{are_seated}
use Rattle.script_core.proofs.script.Script.workers_are_seated.Goals as goal

pub returns : goal.returns
returns c = λ lawful one is. are_seated c.args.self.now c.args.phase one lawful is
