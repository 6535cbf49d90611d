use Rattle.tests_worked.proofs.one.InLine.{one_in_line}
use Rattle.tests_worked.proofs.in_line.one_block_runs_in_line.Goals as goal

pub returns : goal.returns
returns c = one_in_line
