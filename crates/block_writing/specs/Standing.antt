-- What is read at a place of a block's segments.
use Rattle.std.specs.Prelude.{ℕ, List, [], slice_get, unwrap_or, Result, Ok, Err}
use Rattle.chunk_files.specs.ChunkReading.{segment_at}
use Rattle.chunk_files.specs.declared.refusal.ChunkRefusal.{ChunkRefusal}
use Rattle.block_writing.specs.declared.segments.SegmentPlace.{SegmentPlace}

-- what was read, and nothing where it was refused
abbrev pub read_or_nothing : Result (List ℕ) ChunkRefusal → List ℕ
read_or_nothing (Ok content) = content
read_or_nothing (Err refusal) = []

-- the data that are read at a place
unfoldable pub content_at : List (List ℕ) → SegmentPlace → List ℕ
content_at segments place = read_or_nothing (segment_at (unwrap_or (slice_get segments place.segment) []) place.offset)
