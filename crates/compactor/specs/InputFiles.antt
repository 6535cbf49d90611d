-- The files of blocks that were read, and the entries at which they were read.
use Rattle.std.specs.Prelude.{◌≡◌, ℕ, List, map, length, Some, slice_get}
use Rattle.std.specs.List.{AllByRecursion, AllZip}
use Rattle.base.specs.Grammar.{IsBytes}
use Rattle.block_meta.specs.declared.block_files.BlockFiles.{BlockFiles}
use Rattle.index_parts.specs.declared.index_series.IndexSeries.{IndexSeries}
use Rattle.index_parts.specs.declared.chunk_place.ChunkPlace.{ChunkPlace}
use Rattle.index_parts.specs.IndexFile.{IsIndex}
use Rattle.block_content.specs.ContentReading.{fitted}
use Rattle.block_content.specs.ContentRefusals.{HasBadChunk}
use Rattle.block_content.specs.declared.check_refusal.CheckRefusal.{CheckRefusal}
use Rattle.block_content.specs.declared.check_refusal.CheckRefusal.TheVariants.{BadChunk}
use Rattle.compactor.specs.Inputs.{IsInput}
use Rattle.compactor.specs.Named.{named_segments}
use Rattle.compactor.specs.declared.input.Input.{Input}
use Rattle.compactor.specs.declared.input.Read.{Read}
use Rattle.compactor.specs.declared.input_files.Numbers.{Numbers}

abbrev pub numbers_of : Input → Numbers
numbers_of input = record { index = input.index.number; segments = map (λ segment. segment.number) input.segments }

-- the blocks' files are those that were read, at the entries of these numbers
pub record AreFiles (inputs : List Input) (blocks : List BlockFiles) (numbers : List Numbers) : Type 0 where
  pub read : AllZip IsInput inputs blocks
  pub numbers_are : numbers ≡ map numbers_of inputs

-- the same of a block's segments
pub record AreSegments (segments : List Read) (files : List (List ℕ)) (numbers : List ℕ) : Type 0 where
  pub files_are : files ≡ map (λ segment. segment.bytes) segments
  pub numbers_are : numbers ≡ map (λ segment. segment.number) segments
  pub bytes : AllByRecursion IsBytes files

-- the segments of the block that were read are just those that its index names
abbrev pub AreNamed : BlockFiles → Numbers → Type 0
AreNamed block read = named_segments block.index ≡ Some (length read.segments)

-- the entry at which the cause of a refusal was read
abbrev pub IsShownBy : Numbers → BlockFiles → CheckRefusal → ℕ → Type 0
IsShownBy read block (BadChunk series chunk cause) number =
    (bad : HasBadChunk block series chunk cause) × (slice_get read.segments bad.first.bad.member.segment ≡ Some number)
IsShownBy read block other number = number ≡ read.index

-- a series of an index, by the number that a refusal gives of it, names a chunk, by that of the chunk
pub record NamesChunk (index : List ℕ) (series chunk : ℕ) : Type 0 where
  pub indexed : List IndexSeries
  pub index_is : IsIndex index indexed
  pub at_series : ℕ
  pub at_chunk : ℕ
  pub one : IndexSeries
  pub place : ChunkPlace
  pub stands : slice_get indexed at_series ≡ Some one
  pub names : slice_get one.chunks at_chunk ≡ Some place
  pub series_is : series ≡ fitted at_series
  pub chunk_is : chunk ≡ fitted at_chunk

-- the chunk that it names stands at this place
abbrev pub IsPlaceOf : List ℕ → ℕ → ℕ → ChunkPlace → Type 0
IsPlaceOf index series chunk place =
    (indexed : List IndexSeries) (one : IndexSeries) (found : ChunkPlace) (at_series at_chunk : ℕ) → IsIndex index indexed → series ≡ fitted at_series → chunk ≡ fitted at_chunk
    → slice_get indexed at_series ≡ Some one → slice_get one.chunks at_chunk ≡ Some found → place ≡ found
