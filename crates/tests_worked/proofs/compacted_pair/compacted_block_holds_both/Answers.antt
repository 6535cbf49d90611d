use Rattle.tests_worked.proofs.pair.PairBlocks as row
use Rattle.tests_worked.proofs.compacted_pair.compacted_block_holds_both.Goals as goal

pub returns : goal.returns
returns c = record { completed = row.completed; holds = row.holds; within = row.within }
