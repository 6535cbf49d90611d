use Rattle.block_merging.proofs.Content.{content_once}
use Rattle.block_merging.proofs.content_laws.content_is_one.Goals as goal

pub returns : goal.returns
returns c = content_once
