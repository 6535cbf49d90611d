use Rattle.tests_worked.proofs.one.SideBySide.{not_late}
use Rattle.tests_worked.proofs.side_by_side.block_completed_during_the_sync_is_left_out.Goals as goal

pub returns : goal.returns
returns c = not_late
