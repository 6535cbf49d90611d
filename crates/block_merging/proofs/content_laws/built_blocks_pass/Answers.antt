use Rattle.block_merging.proofs.Passing.{built_passes, built_empty}
use Rattle.block_merging.proofs.content_laws.built_blocks_pass.Goals as goal

pub returns : goal.returns
returns c = record { passes = built_passes; empty = built_empty }
