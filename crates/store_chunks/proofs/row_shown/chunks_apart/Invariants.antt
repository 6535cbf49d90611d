use Rattle.std.proofs.Common.{◌≡◌, take}
use Rattle.store_chunks.specs.ChunksRead.{reads_of, reads_apart}
use Rattle.store_chunks.proofs.row_shown.chunks_apart.Given as goal

abbrev pub invariant-loop-row : goal.invariant-loop-row
invariant-loop-row l = reads_apart l.apart.items ≡ reads_of (take l.row-index l.rows)
