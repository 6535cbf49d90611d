use Rattle.tests_worked.proofs.young.YoungBlock.{run, honest}
use Rattle.tests_worked.proofs.young_block.young_block_runs.Goals as goal

pub returns : goal.returns
returns c = record { run = run; honest = honest }
