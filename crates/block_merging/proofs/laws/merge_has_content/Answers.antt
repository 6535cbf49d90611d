use Rattle.block_merging.proofs.MergeLaws.{merge_held}
use Rattle.block_merging.proofs.laws.merge_has_content.Goals as goal

pub returns : goal.returns
returns c = merge_held
