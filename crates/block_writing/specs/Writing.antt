-- What a writer of a block keeps, as what was put into it.
use Rattle.std.specs.Prelude.{◌≡◌, ℕ, ◌≤◌, List, ◌++◌, length, map}
use Rattle.std.specs.List.{flat_map}
use Rattle.block_keys.specs.Keys.{segment_limit}
use Rattle.index_parts.specs.declared.chunk_place.ChunkPlace.{ChunkPlace}
use Rattle.index_parts.specs.Turns.{InOrder}
use Rattle.index_parts.specs.SeriesEntry.{StartsAfter}
use Rattle.index_parts.specs.declared.index_series.IndexSeries.{IndexSeries}
use Rattle.block_meta.specs.declared.block_plan.BlockPlan.{BlockPlan}
use Rattle.block_writing.specs.declared.counts.Counts.{Counts}
use Rattle.block_writing.specs.declared.segments.SegmentPlace.{SegmentPlace}
use Rattle.block_writing.specs.Put.{PutChunk, PutSeries, PlanFields, Put, fitted, IsPut}
use Rattle.block_writing.specs.Segments.{AreSegments}
use Rattle.block_writing.specs.Standing.{content_at}

abbrev pub plan_fields : BlockPlan → PlanFields
plan_fields plan = record { ulid = plan.ulid; min_time = plan.min_time; max_time = plan.max_time; level = plan.level; sources = plan.sources; parents = plan.parents; labels = plan.labels; source = plan.source }

abbrev pub part_of : ChunkPlace → SegmentPlace
part_of place = record { segment = place.segment; offset = place.offset }

-- a chunk by its place
abbrev pub chunk_in : List (List ℕ) → ChunkPlace → PutChunk
chunk_in segments place = record { content = content_at segments (part_of place); min = place.min; max = place.max }

abbrev pub series_in : List (List ℕ) → IndexSeries → PutSeries
series_in segments series = record { labels = series.labels; chunks = map (chunk_in segments) series.chunks }

abbrev pub put_in : BlockPlan → List (List ℕ) → List IndexSeries → List ChunkPlace → Counts → Put
put_in plan segments list chunks counts = record { plan = plan_fields plan; series = map (series_in segments) list; chunks = map (chunk_in segments) chunks; samples = counts.samples }

-- the places of the chunks of all series, and of those whose series is not ended
abbrev pub all_places : List IndexSeries → List ChunkPlace → List ChunkPlace
all_places list chunks = flat_map (λ s. s.chunks) list ++ chunks

-- Exactly the chunks that were put stand in the segments, in their order, and all that was put may be put.
pub record IsWriting (plan : BlockPlan) (segments : List (List ℕ)) (list : List IndexSeries) (chunks : List ChunkPlace) (counts : Counts) : Type 0 where
  pub segments_are : AreSegments (map (content_at segments) (map part_of (all_places list chunks))) (map part_of (all_places list chunks)) segments
  pub few : length segments ≤ segment_limit
  pub ordered : InOrder StartsAfter chunks
  pub series_counted : counts.series ≡ fitted (length list)
  pub chunks_counted : counts.chunks ≡ fitted (length (all_places list chunks))
  pub lawful : IsPut (put_in plan segments list chunks counts)
