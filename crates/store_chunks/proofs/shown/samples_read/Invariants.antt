use Rattle.std.proofs.Common.{◌≡◌, take, filter}
use Rattle.std.specs.List.{flat_map}
use Rattle.std.specs.List.Sorted.{IsStrictlyIncreasing}
use Rattle.store_ranges.specs.ChunkRanges.{meets}
use Rattle.store_chunks.specs.Taken.{samples_of}
use Rattle.store_chunks.specs.ChunksRead.{reads_apart, references_apart}
use Rattle.store_chunks.proofs.shown.samples_read.Given as goal

abbrev pub invariant-loop-place : goal.invariant-loop-place
invariant-loop-place l = IsStrictlyIncreasing (references_apart l.found) → l.samples.items ≡ flat_map (samples_of (reads_apart l.found)) (filter (meets l.asked.low l.asked.high) (take l.place-index l.chunks))
