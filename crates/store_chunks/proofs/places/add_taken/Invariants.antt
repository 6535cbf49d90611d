use Rattle.std.proofs.Common.{◌≡◌, ◌++◌, take, filter}
use Rattle.store_ranges.specs.ChunkRanges.{meets}
use Rattle.store_chunks.proofs.places.add_taken.Given as goal

abbrev pub invariant-loop-place : goal.invariant-loop-place
invariant-loop-place l = l.places.items ≡ l.initial.places.items ++ filter (meets l.asked.low l.asked.high) (take l.place-index l.chunks)
