-- Why a block's files are refused: the first cause in the order index, chunks, times, order of chunks, each of the whole block.
use Rattle.std.specs.Prelude.{◌≡◌, ◌≢◌, ℕ, List, [], Err, ℤ}
use Rattle.std.specs.List.{AllByRecursion, AllZip}
use Rattle.label_sets.specs.declared.sample.Sample.{Sample}
use Rattle.label_sets.specs.declared.series.Series.{Series}
use Rattle.label_sets.specs.Times.{IsWithin}
use Rattle.xor_chunks.specs.Grammar.{IsText}
use Rattle.xor_chunks.specs.Data.{data_at}
use Rattle.xor_chunks.specs.declared.refusal.XorRefusal.TheVariants as xor
use Rattle.xor_chunks.specs.Widths.{stored_filling}
use Rattle.index_parts.specs.declared.chunk_place.ChunkPlace.{ChunkPlace}
use Rattle.index_parts.specs.declared.index_series.IndexSeries.{IndexSeries}
use Rattle.index_parts.specs.IndexFile.{IsIndex}
use Rattle.index_v2.specs.declared.refusal.IndexRefusal.TheVariants as index
use Rattle.block_meta.specs.declared.meta.Meta.{Meta}
use Rattle.base.specs.Firsts.{IsFirstAt}
use Rattle.block_content.specs.Content.{StandsAt, HaveTimesOf, IsChunkOf, HoldsSeries, IsApart, AreWithin}
use Rattle.block_content.specs.ContentReading.{index_at, data_of, fitted}
use Rattle.block_meta.specs.declared.block_files.BlockFiles.{BlockFiles}
use Rattle.block_content.specs.declared.chunk_cause.ChunkCause.{ChunkCause}
use Rattle.block_content.specs.declared.chunk_cause.ChunkCause.TheVariants.{File, Data, NoSamples, TimesDiffer}
use Rattle.block_content.specs.declared.check_refusal.CheckRefusal.{CheckRefusal}
use Rattle.block_content.specs.declared.check_refusal.CheckRefusal.TheVariants.{NoFile, BadMeta, UlidDiffers, NotLevelOne, SourcesNotSelf, Downsampled, TooLarge, BadIndex, EmptyBlock, BadChunk, OutsideRange, Repeated, NamesTooMuch, NoMemory}

-- ---- a chunk

-- Why a chunk is refused: no data stands at its place; it cannot be read as samples; it has none; these have other times than
-- the place tells.
abbrev pub RefusesChunk : List (List ℕ) → ChunkPlace → ChunkCause → Type 0
RefusesChunk segments place (File refusal) = data_of segments place ≡ Err refusal
RefusesChunk segments place (Data refusal) = (content : List ℕ) × StandsAt segments place content × (data_at stored_filling content ≡ Err refusal)
RefusesChunk segments place NoSamples = (content : List ℕ) × StandsAt segments place content × IsText stored_filling content []
RefusesChunk segments place TimesDiffer =
    (content : List ℕ) × (samples : List Sample) × StandsAt segments place content × IsText stored_filling content samples × (samples ≢ []) × (HaveTimesOf place samples → ⊥)

-- the chunk at the place has samples
abbrev pub IsChunk : List (List ℕ) → ChunkPlace → Type 0
IsChunk segments place = (samples : List Sample) × IsChunkOf segments place samples

-- each chunk of the series has samples
abbrev pub AreChunks : List (List ℕ) → IndexSeries → Type 0
AreChunks segments indexed = (parts : List (List Sample)) × AllZip (IsChunkOf segments) indexed.chunks parts

-- ---- the first of its kind in the block

-- this chunk of this series is the first that is refused, and for this cause
abbrev pub IsFirstBadChunk : List (List ℕ) → List IndexSeries → ℕ → ℕ → ChunkCause → Type 0
IsFirstBadChunk segments indexed series chunk cause =
    IsFirstAt (AreChunks segments) (λ one. IsFirstAt (IsChunk segments) (λ place. RefusesChunk segments place cause) one.chunks chunk) indexed series

-- a sample at this time, outside the block's times
pub record IsOutside (meta : Meta) (time : ℤ) (sample : Sample) : Type 0 where
  pub outside : IsWithin meta.min_time meta.max_time sample → ⊥
  pub at : time ≡ sample.time

-- in this series stands the first sample outside the block's times, and it is at this time
abbrev pub IsFirstOutside : Meta → List Series → ℕ → ℤ → Type 0
IsFirstOutside meta list series time =
    IsFirstAt (AreWithin meta) (λ one. (place : ℕ) × IsFirstAt (IsWithin meta.min_time meta.max_time) (IsOutside meta time) one.samples place) list series

-- this series is the first whose chunks do not follow one another in time
abbrev pub IsFirstRepeated : List IndexSeries → ℕ → Type 0
IsFirstRepeated indexed series = IsFirstAt IsApart (λ one. IsApart one → ⊥) indexed series

-- ---- the block

pub record HasBadChunk (files : BlockFiles) (series chunk : ℕ) (cause : ChunkCause) : Type 0 where
  pub indexed : List IndexSeries
  pub index_is : IsIndex files.index indexed
  pub at_series : ℕ
  pub at_chunk : ℕ
  pub first : IsFirstBadChunk files.segments indexed at_series at_chunk cause
  pub series_is : series ≡ fitted at_series
  pub chunk_is : chunk ≡ fitted at_chunk

-- each chunk is read, and a sample lies outside the block's times
pub record HasOutside (files : BlockFiles) (series : ℕ) (time : ℤ) : Type 0 where
  pub indexed : List IndexSeries
  pub list : List Series
  pub index_is : IsIndex files.index indexed
  pub series_are : AllZip (HoldsSeries files.segments) indexed list
  pub at_series : ℕ
  pub first : IsFirstOutside files.meta list at_series time
  pub series_is : series ≡ fitted at_series

-- each chunk is read, all samples lie within the block's times, and a chunk does not begin after the one before it ends
pub record HasRepeated (files : BlockFiles) (series : ℕ) : Type 0 where
  pub indexed : List IndexSeries
  pub list : List Series
  pub index_is : IsIndex files.index indexed
  pub series_are : AllZip (HoldsSeries files.segments) indexed list
  pub within : AllByRecursion (AreWithin files.meta) list
  pub at_series : ℕ
  pub first : IsFirstRepeated indexed at_series
  pub series_is : series ≡ fitted at_series

-- The files hold no content, and this is why.
abbrev pub RefusesContent : BlockFiles → CheckRefusal → Type 0
RefusesContent files (BadIndex refusal) = (index_at files.index ≡ Err refusal) × (refusal ≢ index.NoMemory)
RefusesContent files (BadChunk series chunk cause) = HasBadChunk files series chunk cause × (cause ≢ Data xor.NoMemory)
RefusesContent files (OutsideRange series time) = HasOutside files series time
RefusesContent files (Repeated series) = HasRepeated files series
RefusesContent files (NoFile key) = ⊥
RefusesContent files (BadMeta refusal) = ⊥
RefusesContent files UlidDiffers = ⊥
RefusesContent files NotLevelOne = ⊥
RefusesContent files SourcesNotSelf = ⊥
RefusesContent files Downsampled = ⊥
RefusesContent files (TooLarge key) = ⊥
RefusesContent files EmptyBlock = ⊥
RefusesContent files NamesTooMuch = ⊥
RefusesContent files NoMemory = ⊥
