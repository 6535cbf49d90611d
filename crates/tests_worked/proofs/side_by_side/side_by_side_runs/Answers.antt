use Rattle.tests_worked.proofs.one.SideBySide.{run, honest, given}
use Rattle.tests_worked.proofs.side_by_side.side_by_side_runs.Goals as goal

pub returns : goal.returns
returns c = record { run = run; honest = honest; given = given }
