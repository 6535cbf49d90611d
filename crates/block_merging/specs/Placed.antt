-- Chunks with their places, in one order or the other.
use Rattle.std.specs.Prelude.{ℕ, ◌+◌, ◌<◌, ◌≤◌, List, [], ◌∷◌, length, slice_index_or, Bool, ◌≤ℤ◌, ◌<ℤ◌}
use Rattle.std.specs.Ordering.{int_cmp, nat_cmp, is_lt}
use Rattle.block_writing.specs.Put.{PutChunk}
use Rattle.block_merging.specs.declared.input_chunk.InputChunk.{InputChunk}
use Rattle.block_merging.specs.declared.placed_chunk.PlacedChunk.{PlacedChunk}
use Rattle.block_merging.specs.Runs.{Meet}

-- a chunk that is lent, as one that is put
abbrev pub chunk_of : InputChunk → PutChunk
chunk_of chunk = record { content = chunk.bytes.now; min = chunk.min; max = chunk.max }

abbrev pub placed_chunk : PlacedChunk → PutChunk
placed_chunk one = chunk_of one.chunk

-- the chunks with their places, which count from this number
abbrev pub placed_from : ℕ → List InputChunk → List PlacedChunk
placed_from place [] = []
placed_from place (chunk ∷ chunks) = record { chunk = chunk; place = place } ∷ placed_from (place + 1) chunks

abbrev pub begins_before : PlacedChunk → PlacedChunk → Bool
begins_before one other = is_lt (int_cmp one.chunk.min other.chunk.min)

abbrev pub stands_before : PlacedChunk → PlacedChunk → Bool
stands_before one other = is_lt (nat_cmp one.place other.place)

-- no chunk ends before it begins, and none begins before one that stands before it
pub record AreByBegin (chunks : List PlacedChunk) : Type 0 where
  pub timed : (k : ℕ) (d : PlacedChunk) → k < length chunks → (slice_index_or chunks k d).chunk.min ≤ℤ (slice_index_or chunks k d).chunk.max
  pub sorted : (j k : ℕ) (d : PlacedChunk) → j ≤ k → k < length chunks → (slice_index_or chunks j d).chunk.min ≤ℤ (slice_index_or chunks k d).chunk.min

-- Each of so many chunks but the first meets one before it, and the next one begins after all of them end.
pub record IsFirstRun (chunks : List PlacedChunk) (count : ℕ) : Type 0 where
  pub some : 0 < count
  pub within : count ≤ length chunks
  pub chained : (k : ℕ) (d : PlacedChunk) → 0 < k → k < count → (j : ℕ) × (j < k) × Meet (placed_chunk (slice_index_or chunks k d)) (placed_chunk (slice_index_or chunks j d))
  pub ended : (k : ℕ) (d : PlacedChunk) → k < count → count < length chunks → (slice_index_or chunks k d).chunk.max <ℤ (slice_index_or chunks count d).chunk.min
