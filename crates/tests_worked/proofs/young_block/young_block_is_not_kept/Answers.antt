use Rattle.tests_worked.proofs.young.YoungBlock.{run_turned, honest_turned}
use Rattle.tests_worked.proofs.young_block.young_block_is_not_kept.Goals as goal

pub returns : goal.returns
returns c = record { run = run_turned; honest = honest_turned }
