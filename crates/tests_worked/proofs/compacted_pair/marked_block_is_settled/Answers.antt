use Rattle.tests_worked.proofs.pair.PairBlocks as row
use Rattle.tests_worked.proofs.compacted_pair.marked_block_is_settled.Goals as goal

pub returns : goal.returns
returns c = record { settled = row.settled; short = row.left_out; covered = row.none_left_out }
