use Rattle.block_merging.proofs.Content.{written_holds, written_only}
use Rattle.block_merging.proofs.content_laws.written_is_content.Goals as goal

pub returns : goal.returns
returns c = record { held = written_holds; only = written_only }
