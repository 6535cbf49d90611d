-- What a block's files hold, apart from how it is read: series, each with its labels and its samples.
use Rattle.std.specs.Prelude.{◌≡◌, ℕ, ◌-◌, List, length, slice_get, Option, None, Some, ℤ, ◌<ℤ◌}
use Rattle.std.specs.List.{AllByRecursion, flat_map, AllZip}
use Rattle.label_sets.specs.declared.sample.Sample.{Sample}
use Rattle.label_sets.specs.declared.series.Series.{Series}
use Rattle.label_sets.specs.Times.{times_of, IsWithin}
use Rattle.xor_chunks.specs.Grammar.{IsText}
use Rattle.xor_chunks.specs.Widths.{stored_filling}
use Rattle.chunk_files.specs.Chunk.{IsPlace}
use Rattle.index_parts.specs.Turns.{InOrder}
use Rattle.index_parts.specs.declared.chunk_place.ChunkPlace.{ChunkPlace}
use Rattle.index_parts.specs.declared.index_series.IndexSeries.{IndexSeries}
use Rattle.index_parts.specs.IndexFile.{IsIndex}
use Rattle.block_meta.specs.declared.meta.Meta.{Meta}
use Rattle.block_meta.specs.declared.block_files.BlockFiles.{BlockFiles}

-- ---- a chunk

-- The segment that a place names is one of the block's, and this data stands in it at the place.
pub record StandsAt (segments : List (List ℕ)) (place : ChunkPlace) (content : List ℕ) : Type 0 where
  pub segment : List ℕ
  pub named : slice_get segments place.segment ≡ Some segment
  pub stands : IsPlace segment place.offset content

-- There are samples, of which the first is at the least time that the place tells, and the last at the greatest.
pub record HaveTimesOf (place : ChunkPlace) (samples : List Sample) : Type 0 where
  pub begins : slice_get (times_of samples) 0 ≡ Some place.min
  pub ends : slice_get (times_of samples) (length samples - 1) ≡ Some place.max

-- The data at the place stands for these samples, and may have a byte of zeros behind it; the samples have the place's times.
pub record IsChunkOf (segments : List (List ℕ)) (place : ChunkPlace) (samples : List Sample) : Type 0 where
  pub content : List ℕ
  pub stands : StandsAt segments place content
  pub reads : IsText stored_filling content samples
  pub timed : HaveTimesOf place samples

-- ---- a series

-- A series has the labels that the index tells, and the samples of its chunks one after another.
pub record HoldsSeries (segments : List (List ℕ)) (indexed : IndexSeries) (series : Series) : Type 0 where
  pub parts : List (List Sample)
  pub chunks_are : AllZip (IsChunkOf segments) indexed.chunks parts
  pub labels_are : series.labels ≡ indexed.labels
  pub samples_are : series.samples ≡ flat_map (λ part. part) parts

-- a chunk begins after the one before it ends
abbrev pub BeginsAfter : Option ChunkPlace → ChunkPlace → Type 0
BeginsAfter None chunk = Unit {0}
BeginsAfter (Some before) chunk = before.max <ℤ chunk.min

-- so does each of a series
abbrev pub IsApart : IndexSeries → Type 0
IsApart indexed = InOrder BeginsAfter indexed.chunks

-- ---- the block

-- The samples lie within the block's times, of which the last is not its own.
abbrev pub AreWithin : Meta → Series → Type 0
AreWithin meta series = AllByRecursion (IsWithin meta.min_time meta.max_time) series.samples

-- The files hold these series: those of the index, in its order, each of whose chunks is read, whose times lie within the
-- block's, and whose chunks follow one another in time.
pub record IsContent (files : BlockFiles) (list : List Series) : Type 0 where
  pub indexed : List IndexSeries
  pub index_is : IsIndex files.index indexed
  pub series_are : AllZip (HoldsSeries files.segments) indexed list
  pub within : AllByRecursion (AreWithin files.meta) list
  pub apart : AllByRecursion IsApart indexed
