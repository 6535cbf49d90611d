use Rattle.std.proofs.Common.{◌≡◌, take}
use Rattle.block_merging.specs.Placed.{placed_from}
use Rattle.block_merging.proofs.placed_chunk.placed_chunks.Given as goal

abbrev pub invariant-loop-place : goal.invariant-loop-place
invariant-loop-place l = l.made.items ≡ take l.place (placed_from 0 l.chunks)
