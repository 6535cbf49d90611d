use Rattle.block_merging.proofs.OneBlock.{built_once}
use Rattle.block_merging.proofs.content_laws.built_is_one.Goals as goal

pub returns : goal.returns
returns c plan series files other is too = built_once plan series files other is too
