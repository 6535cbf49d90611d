-- How many segments a block's index names.
use Rattle.std.specs.Prelude.{ℕ, ◌+◌, max, nat_le, Bool, true, false, List, map, fold, Option, Some, None, Result, Ok, Err}
use Rattle.std.specs.List.{flat_map}
use Rattle.block_keys.specs.Keys.{segment_limit}
use Rattle.index_parts.specs.declared.chunk_place.ChunkPlace.{ChunkPlace}
use Rattle.index_parts.specs.declared.index_series.IndexSeries.{IndexSeries}
use Rattle.index_v2.specs.declared.refusal.IndexRefusal.{IndexRefusal}
use Rattle.block_content.specs.ContentReading.{index_at}

-- the number of the segment in which a chunk stands
abbrev pub segment_number : ChunkPlace → ℕ
segment_number place = place.segment + 1

-- the greatest number of a segment that series name, and 0 where they name none
abbrev pub last_named : List IndexSeries → ℕ
last_named indexed = fold max 0 (map segment_number (flat_map (λ one. one.chunks) indexed))

-- so many, if a block may have them
abbrev pub if_few : Bool → ℕ → Option ℕ
if_few true count = Some count
if_few false count = None

abbrev pub named_by : Result (List IndexSeries) IndexRefusal → Option ℕ
named_by (Err refusal) = None
named_by (Ok indexed) = if_few (nat_le (last_named indexed) segment_limit) (last_named indexed)

-- the greatest number of a segment that the index names, if it can be read and that is one that a segment may have
abbrev pub named_segments : List ℕ → Option ℕ
named_segments bytes = named_by (index_at bytes)
