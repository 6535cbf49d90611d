use Rattle.tests_worked.proofs.TwoGateways.{given, honest, reports, run}
use Rattle.tests_worked.proofs.two_gateways.two_gateways_answer.Goals as goal

pub returns : goal.returns
returns c = record { run = run; honest = honest; given = given; report = reports }
