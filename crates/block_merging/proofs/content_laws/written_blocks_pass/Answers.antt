use Rattle.block_merging.proofs.Passing.{written_passes, written_empty}
use Rattle.block_merging.proofs.content_laws.written_blocks_pass.Goals as goal

pub returns : goal.returns
returns c = record { passes = written_passes; empty = written_empty }
