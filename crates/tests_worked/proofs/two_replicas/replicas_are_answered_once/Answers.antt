use Rattle.tests_worked.proofs.TwoReplicas.{exact, not_short, not_twice}
use Rattle.tests_worked.proofs.two_replicas.replicas_are_answered_once.Goals as goal

pub returns : goal.returns
returns c = record { exact = exact; twice = not_twice; short = not_short }
