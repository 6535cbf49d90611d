use Rattle.tests_worked.proofs.one.OneBlock.{run}
use Rattle.tests_worked.proofs.one_block.one_block_runs.Goals as goal

pub returns : goal.returns
returns c = run
