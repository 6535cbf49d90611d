use Rattle.tests_worked.proofs.one.SideBySide.{not_early}
use Rattle.tests_worked.proofs.side_by_side.named_block_was_completed_during_the_sync.Goals as goal

pub returns : goal.returns
returns c = not_early
