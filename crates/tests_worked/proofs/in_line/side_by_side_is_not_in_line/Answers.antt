use Rattle.tests_worked.proofs.one.InLine.{not_side_by_side}
use Rattle.tests_worked.proofs.in_line.side_by_side_is_not_in_line.Goals as goal

pub returns : goal.returns
returns c = not_side_by_side
