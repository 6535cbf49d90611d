use Rattle.tests_worked.proofs.LandedFault.{completes, completes_not}
use Rattle.tests_worked.proofs.landed_fault.landed_fault_completes.Goals as goal

pub returns : goal.returns
returns c = record { landed = completes; lost = completes_not }
