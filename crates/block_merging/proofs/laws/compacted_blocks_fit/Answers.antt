use Rattle.block_merging.proofs.PlansFit.{compacted_lie}
use Rattle.block_merging.proofs.laws.compacted_blocks_fit.Goals as goal

pub returns : goal.returns
returns c = compacted_lie
