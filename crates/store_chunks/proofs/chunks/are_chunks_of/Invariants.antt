use Rattle.std.proofs.Common.{◌≡◌, true, take}
use Rattle.std.specs.List.{list_all}
use Rattle.store_ranges.specs.Asking.{block_asked}
use Rattle.store_chunks.specs.ChunkReads.{is_chunk_of}
use Rattle.store_chunks.proofs.chunks.are_chunks_of.Given as goal

abbrev pub invariant-loop-place : goal.invariant-loop-place
invariant-loop-place l = list_all (is_chunk_of (block_asked l.asked) l.samples) (take l.place-index l.places) ≡ true
