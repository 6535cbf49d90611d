use Rattle.tests_worked.proofs.LandedFault.{finished, honest, run}
use Rattle.tests_worked.proofs.landed_fault.landed_fault_is_already_there.Goals as goal

pub returns : goal.returns
returns c = record { run = run; finished = finished; honest = honest }
