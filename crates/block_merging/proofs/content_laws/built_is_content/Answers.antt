use Rattle.block_merging.proofs.Content.{built_holds, built_only}
use Rattle.block_merging.proofs.content_laws.built_is_content.Goals as goal

pub returns : goal.returns
returns c = record { held = built_holds; only = built_only }
