use Rattle.tests_worked.proofs.pair.PairBlocks as row
use Rattle.tests_worked.proofs.compacted_pair.compacted_block_is_the_cause.Goals as goal

pub returns : goal.returns
returns c = record { first = row.first_mark; cause = row.marked_for }
