use Rattle.std.proofs.Common.{◌≡◌, ◌++◌, map, take}
use Rattle.block_writing.specs.Writing.{chunk_in}
use Rattle.block_merging.specs.Placed.{chunk_of}
use Rattle.block_merging.proofs.lent_chunks.add_chunks.Given as goal

abbrev pub invariant-loop-place : goal.invariant-loop-place
invariant-loop-place l = map chunk_of l.all.items ≡ map chunk_of l.fn.made.items ++ map (chunk_in l.segments) (take l.place-index l.places)
