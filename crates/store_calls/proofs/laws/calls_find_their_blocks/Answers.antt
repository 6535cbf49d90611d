use Rattle.store_calls.proofs.FoundBlocks.{finds_blocks}
use Rattle.store_calls.proofs.laws.calls_find_their_blocks.Goals as goal

pub returns : goal.returns
returns c = finds_blocks
