-- Blocks as they stand in a bucket, and what a call over them comes to.
use Rattle.std.specs.Prelude.{◌≡◌, ℕ, ◌+◌, ◌≤◌, ◌≤ℤ◌, ◌<ℤ◌, List, All, length, Some, IfSome, option_map, slice_get, zip}
use Rattle.std.specs.List.{AllByRecursion, AllZip, flat_map}
use Rattle.block_keys.specs.Keys.{segment_limit}
use Rattle.base.specs.Grammar.{IsBytes}
use Rattle.label_sets.specs.declared.series.Series.{Series}
use Rattle.label_sets.specs.Finals.{final_of}
use Rattle.label_sets.specs.Triples.{Triple, triples_under}
use Rattle.block_keys.specs.KeyText.{key_text}
use Rattle.block_keys.specs.declared.key.Key.TheVariants.{Index, Segment}
use Rattle.bucket_core.specs.Contents.{Contents, range_of}
use Rattle.chunk_files.specs.Layout.{greatest}
use Rattle.matchers.specs.Selected.{selected}
use Rattle.world_core.specs.Standing.{Tells}
use Rattle.world_core.specs.declared.entry.Entry.{Entry}
use Rattle.index_parts.specs.IndexFile.{IsIndex}
use Rattle.index_parts.specs.declared.index_series.IndexSeries.{IndexSeries}
use Rattle.block_content.specs.Content.{HoldsSeries}
use Rattle.store_ranges.specs.declared.range.Range.{Range}
use Rattle.store_ranges.specs.Reads.{Block, Cache, Query}

-- ---- what is shown

-- each read shows what stands
abbrev pub AreShown : Contents → List Entry → Type 0
AreShown contents entries = All (λ e. Tells contents e.op e.reply) entries

-- these bytes stand in the range
abbrev pub StandsIn : Contents → Range → List ℕ → Type 0
StandsIn contents range bytes = option_map (range_of range.from range.len) (contents (key_text range.key)) ≡ Some bytes

-- The cache has of each range what stands there.
abbrev pub IsCacheOf : Contents → Cache → Type 0
IsCacheOf contents cache = All (λ (kept : Range × List ℕ). StandsIn contents kept.0 kept.1) cache.entries

-- ---- what blocks hold

-- The block's index and its segments stand in the bucket, and hold these series. If the size of the index is told, it is this one's.
pub record HoldsBlock (contents : Contents) (block : Block) (list : List Series) : Type 0 where
  pub index : List ℕ
  pub index_stands : contents (key_text (Index block.ulid)) ≡ Some index
  pub size_told : IfSome block.index_size (λ size. size ≡ length index)
  pub segments : List (List ℕ)
  pub segments_stand : (place : ℕ) (segment : List ℕ) → slice_get segments place ≡ Some segment → contents (key_text (Segment block.ulid (place + 1))) ≡ Some segment
  pub bytes : IsBytes index × AllByRecursion IsBytes segments
  pub indexed : List IndexSeries
  pub index_is : IsIndex index indexed
  pub series_are : AllZip (HoldsSeries segments) indexed list

-- A block that holds these series keeps its bounds: a key has room for the number of each of its segments, no segment is longer than
-- one may be, and its samples lie within the times that are told.
pub record IsInBounds (block : Block) (segments : List (List ℕ)) (list : List Series) : Type 0 where
  pub few : length segments ≤ segment_limit
  pub short : AllByRecursion (λ segment. length segment ≤ greatest) segments
  pub within : AllByRecursion (λ s. AllByRecursion (λ sample. (block.min_time ≤ℤ sample.time) × (sample.time <ℤ block.max_time)) s.samples) list

-- the block holds these series, and keeps its bounds
pub record HoldsWhole (contents : Contents) (block : Block) (list : List Series) : Type 0 where
  pub holds : HoldsBlock contents block list
  pub bounds : IsInBounds block holds.segments list

-- the block's samples under their final labels
abbrev pub held_by : Query → Block → List Series → List Triple
held_by query block list = flat_map (λ s. triples_under (final_of s.labels block.external query.replicas) s.samples) list

-- those that the query asks for
abbrev pub asked_of : Query → Block → List Series → List Triple
asked_of query block list = selected query.selector query.low query.high (held_by query block list)

-- and of all blocks, in their order
abbrev pub asked_of_all : Query → List Block → List (List Series) → List Triple
asked_of_all query blocks lists = flat_map (λ (one : Block × List Series). asked_of query one.0 one.1) (zip blocks lists)
