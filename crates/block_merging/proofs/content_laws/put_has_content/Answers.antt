use Rattle.block_merging.proofs.Content.{put_stands}
use Rattle.block_merging.proofs.content_laws.put_has_content.Goals as goal

pub returns : goal.returns
returns c = put_stands
