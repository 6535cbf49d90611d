-- What reading a block's content gives, or the first refusal.
use Rattle.std.specs.Prelude.{ℕ, ◌+◌, ◌*◌, ◌≤◌, ◌-◌, ◌^◌, min, sum_by, All, List, [], ◌∷◌, length, slice_get, Option, None, Some, option_map, Bool, true, false, ◌&&◌, Result, Ok, Err, ◌≡◌, ◌⊎◌, MatchResult, ℤ, ◌≤ℤ◌, int_lt, if◌then◌else◌}
use Rattle.std.specs.List.{AllByRecursion, AllZip}
use Rattle.std.specs.Ordering.{int_eq}
use Rattle.base.specs.Lists.{joined}
use Rattle.base.specs.Reading.{◌>>=◌, ◌>>◌, unless, refused_as}
use Rattle.label_sets.specs.declared.sample.Sample.{Sample}
use Rattle.label_sets.specs.declared.series.Series.{Series}
use Rattle.label_sets.specs.Times.{is_within}
use Rattle.xor_chunks.specs.Data.{data_at}
use Rattle.xor_chunks.specs.declared.refusal.XorRefusal.TheVariants as xor
use Rattle.xor_chunks.specs.declared.spanning.SampleSpan.{SampleSpan}
use Rattle.xor_chunks.specs.Widths.{stored_filling}
use Rattle.chunk_files.specs.declared.refusal.ChunkRefusal.{ChunkRefusal}
use Rattle.chunk_files.specs.declared.refusal.ChunkRefusal.TheVariants.{Short}
use Rattle.chunk_files.specs.ChunkReading.{segment_at}
use Rattle.index_parts.specs.declared.chunk_place.ChunkPlace.{ChunkPlace}
use Rattle.index_parts.specs.declared.index_series.IndexSeries.{IndexSeries}
use Rattle.index_v2.specs.declared.refusal.IndexRefusal.{IndexRefusal}
use Rattle.index_v2.specs.declared.refusal.IndexRefusal.TheVariants as index
use Rattle.index_v2.specs.Sizes.{members_of}
use Rattle.index_v2.specs.Held.{whole_file}
use Rattle.index_v2.specs.Opening.{opened_at}
use Rattle.index_v2.specs.WholeReading.{whole_at}
use Rattle.block_meta.specs.declared.meta.Meta.{Meta}
use Rattle.base.specs.Firsts.{each_at, first_at}
use Rattle.block_meta.specs.declared.block_files.BlockFiles.{BlockFiles}
use Rattle.block_content.specs.declared.chunk_cause.ChunkCause.{ChunkCause}
use Rattle.block_content.specs.declared.chunk_cause.ChunkCause.TheVariants.{File, Data, NoSamples, TimesDiffer}
use Rattle.block_content.specs.declared.check_refusal.CheckRefusal.{CheckRefusal}
use Rattle.block_content.specs.declared.check_refusal.CheckRefusal.TheVariants.{BadIndex, BadChunk, OutsideRange, Repeated, NoMemory}

-- ---- a chunk

-- the data at a chunk's place in a segment, of which none stands in one that is not there
abbrev pub data_in : Option (List ℕ) → ℕ → Result (List ℕ) ChunkRefusal
data_in None offset = Err Short
data_in (Some segment) offset = segment_at segment offset

abbrev pub data_of : List (List ℕ) → ChunkPlace → Result (List ℕ) ChunkRefusal
data_of segments place = data_in (slice_get segments place.segment) place.offset

-- a time is there, and is this one
abbrev pub is_time : Option Sample → ℤ → Bool
is_time None time = false
is_time (Some sample) time = int_eq sample.time time

-- the samples have the times that the place tells
abbrev pub have_times_of : ChunkPlace → List Sample → Bool
have_times_of place samples = is_time (slice_get samples 0) place.min && is_time (slice_get samples (length samples - 1)) place.max

abbrev pub are_some : List Sample → Bool
are_some [] = false
are_some (sample ∷ samples) = true

-- whether samples are those of a chunk at the place
abbrev pub part_at : ChunkPlace → List Sample → Result (Unit {0}) ChunkCause
part_at place samples = unless (are_some samples) NoSamples >> unless (have_times_of place samples) TimesDiffer

-- the samples that the data of a chunk stands for
unfoldable pub samples_at : ChunkPlace → List ℕ → Result (List Sample) ChunkCause
samples_at place content = do
  samples ← refused_as Data (data_at stored_filling content)
  unless (are_some samples) NoSamples
  unless (have_times_of place samples) TimesDiffer
  Ok samples

-- the samples of a chunk
unfoldable pub chunk_at : List (List ℕ) → ChunkPlace → Result (List Sample) ChunkCause
chunk_at segments place = do
  content ← refused_as File (data_of segments place)
  samples_at place content

-- what the span of a part tells of the part
abbrev pub span_at : ChunkPlace → Option SampleSpan → Result ℕ ChunkCause
span_at place None = Err NoSamples
span_at place (Some span) = unless (int_eq span.first place.min && int_eq span.last place.max) TimesDiffer >> Ok span.count

-- What a call made of the samples of a chunk, or the first refusal, unless memory ran out.
abbrev pub MadeOfChunk : {X : Type 0} → List (List ℕ) → ChunkPlace → (X → List Sample → Type 0) → Result X ChunkCause → Type 0
MadeOfChunk segments place Is result = MatchResult result
    (λ made. (part : List Sample) × (chunk_at segments place ≡ Ok part) × Is made part)
    (λ e. (e ≡ Data xor.NoMemory) ⊎ (chunk_at segments place ≡ Err e))

abbrev pub bytes_in : Result (List ℕ) ChunkRefusal → ℕ
bytes_in (Ok content) = length content
bytes_in (Err refusal) = 0

-- how many bytes of data a chunk has, and a series
abbrev pub chunk_bytes : List (List ℕ) → ChunkPlace → ℕ
chunk_bytes segments place = bytes_in (data_of segments place)

abbrev pub series_bytes : List (List ℕ) → IndexSeries → ℕ
series_bytes segments indexed = sum_by (chunk_bytes segments) indexed.chunks

-- No series has more than eight samples for each byte of its chunks.
abbrev pub AreFew : List (List ℕ) → List IndexSeries → List Series → Type 0
AreFew segments indexed list = AllZip (λ (one : IndexSeries) (series : Series). length series.samples ≤ 8 * series_bytes segments one) indexed list

-- ---- the chunks of the block

-- the samples of each chunk of a series
abbrev pub chunks_at : List (List ℕ) → IndexSeries → Result (List (List Sample)) (ℕ × ChunkCause)
chunks_at segments indexed = each_at (chunk_at segments) indexed.chunks

-- a series with the samples of its chunks
abbrev pub series_of : IndexSeries → List (List Sample) → Series
series_of indexed parts = record { labels = indexed.labels; samples = joined parts }

-- all of them
unfoldable pub list_of : List IndexSeries → List (List (List Sample)) → List Series
list_of [] parts = []
list_of (one ∷ indexed) [] = []
list_of (one ∷ indexed) (first ∷ parts) = series_of one first ∷ list_of indexed parts

-- ---- times and order

-- the time of a sample outside the block's times
abbrev pub outside_of : Meta → Sample → Option ℤ
outside_of meta sample = if is_within meta.min_time meta.max_time sample then None else Some sample.time

-- the first such time
abbrev pub first_time : Meta → List Sample → Option ℤ
first_time meta samples = option_map (λ (r : ℕ × ℤ). r.1) (first_at (outside_of meta) samples)

-- each sample lies within the times that the place tells
abbrev pub LieBetween : ChunkPlace → List Sample → Type 0
LieBetween place samples = AllByRecursion (λ s. (place.min ≤ℤ s.time) × (s.time ≤ℤ place.max)) samples

abbrev pub first_outside : Meta → Series → Option ℤ
first_outside meta series = first_time meta series.samples

-- whether a chunk begins after the one before it ends
abbrev pub begins_after : Option ChunkPlace → ChunkPlace → Bool
begins_after None chunk = true
begins_after (Some before) chunk = int_lt before.max chunk.min

unfoldable pub follow : Option ChunkPlace → List ChunkPlace → Bool
follow before [] = true
follow before (chunk ∷ chunks) = begins_after before chunk && follow (Some chunk) chunks

-- what is found at a series whose chunks are not apart
abbrev pub repeated_in : IndexSeries → Option (Unit {0})
repeated_in indexed = if follow None indexed.chunks then None else Some tt

-- ---- the whole

-- a number as one of 32 bits, or the greatest of these
abbrev pub fitted : ℕ → ℕ
fitted number = min number (2 ^ 32 - 1)

abbrev pub refused_index : IndexRefusal → CheckRefusal
refused_index index.NoMemory = NoMemory
refused_index refusal = BadIndex refusal

abbrev pub refused_cause : ℕ → ℕ → ChunkCause → CheckRefusal
refused_cause series chunk (Data xor.NoMemory) = NoMemory
refused_cause series chunk cause = BadChunk series chunk cause

abbrev pub refused_chunk : ℕ × (ℕ × ChunkCause) → CheckRefusal
refused_chunk r = refused_cause (fitted r.0) (fitted r.1.0) r.1.1

-- no refusal is found
abbrev pub unless_found : {X : Type 0} → (X → CheckRefusal) → Option X → Result (Unit {0}) CheckRefusal
unless_found refused None = Ok tt
unless_found refused (Some x) = Err (refused x)

-- all series of an index
unfoldable pub index_at : List ℕ → Result (List IndexSeries) IndexRefusal
index_at index = do
  opened ← opened_at index
  whole_at (whole_file opened)

abbrev pub refused_time : ℕ × ℤ → CheckRefusal
refused_time r = OutsideRange (fitted r.0) r.1

abbrev pub refused_order : ℕ × Unit {0} → CheckRefusal
refused_order r = Repeated (fitted r.0)

-- An index of so many bytes lists so few series, which have so few labels and chunks.
pub record ListsFew (index : List ℕ) (list : List IndexSeries) : Type 0 where
  pub series : 4 * length list ≤ length index
  pub each : All (λ (one : IndexSeries). 2 * length one.labels + 3 * length one.chunks ≤ length index) list
  pub members : sum_by members_of list ≤ length index

-- the times of the series that were read, and then the order of their chunks
unfoldable pub tested_at : Meta → List IndexSeries → List Series → Result (List Series) CheckRefusal
tested_at meta indexed list = do
  unless_found refused_time (first_at (first_outside meta) list)
  unless_found refused_order (first_at repeated_in indexed)
  Ok list

-- the chunks of all series, and then these
unfoldable pub chunked_at : Meta → List (List ℕ) → List IndexSeries → Result (List Series) CheckRefusal
chunked_at meta segments indexed = do
  parts ← refused_as refused_chunk (each_at (chunks_at segments) indexed)
  tested_at meta indexed (list_of indexed parts)

-- the index, and then the chunks
unfoldable pub contents_at : Meta → List ℕ → List (List ℕ) → Result (List Series) CheckRefusal
contents_at meta index segments = do
  indexed ← refused_as refused_index (index_at index)
  chunked_at meta segments indexed

abbrev pub content_at : BlockFiles → Result (List Series) CheckRefusal
content_at files = contents_at files.meta files.index files.segments

-- ---- walks

-- What a walk over the chunks of a series made of their samples, or the first refusal, unless memory ran out.
abbrev pub WalksChunks : {X : Type 0} → List (List ℕ) → ℕ → List ChunkPlace → (X → List (List Sample) → Type 0) → Result X CheckRefusal → Type 0
WalksChunks segments series chunks Is result = MatchResult result
    (λ made. (parts : List (List Sample)) × (each_at (chunk_at segments) chunks ≡ Ok parts) × Is made parts)
    (λ e. (e ≡ NoMemory) ⊎ ((r : ℕ × ChunkCause) × (each_at (chunk_at segments) chunks ≡ Err r) × (e ≡ refused_cause series (fitted r.0) r.1)))

-- the same of a walk over all series
abbrev pub WalksSeries : {X : Type 0} → List (List ℕ) → List IndexSeries → (X → List (List (List Sample)) → Type 0) → Result X CheckRefusal → Type 0
WalksSeries segments indexed Is result = MatchResult result
    (λ made. (parts : List (List (List Sample))) × (each_at (chunks_at segments) indexed ≡ Ok parts) × Is made parts)
    (λ e. (e ≡ NoMemory) ⊎ ((r : ℕ × (ℕ × ChunkCause)) × (each_at (chunks_at segments) indexed ≡ Err r) × (e ≡ refused_chunk r)))
