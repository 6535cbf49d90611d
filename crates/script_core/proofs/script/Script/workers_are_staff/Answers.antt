use Rattle.script_workers.specs.Hands.{gateway_count}
use Rattle.script_workers.proofs.StaffLaws.{is_staff}
use Rattle.script_core.proofs.script.Script.workers_are_staff.Goals as goal

pub returns : goal.returns
returns c = λ one is. is_staff (gateway_count c.args.self.now.gateways) one.tasks
