-- What is found at the places where chunks stand, whatever times these tell of their samples.
use Rattle.std.specs.Prelude.{◌≡◌, ◌⊎◌, ℕ, ◌+◌, ◌*◌, ◌^◌, ◌<◌, nat_lt, cond, List, [], ◌∷◌, Bool, true, ◌&&◌, Option, None, Some, Result, Ok, Err, MatchResult, int_lt, int_le}
use Rattle.std.specs.BTreeMap.{get}
use Rattle.std.specs.List.{flat_map}
use Rattle.std.specs.Ordering.{is_eq, nat_cmp}
use Rattle.base.specs.Reading.{◌>>=◌, refused_as}
use Rattle.label_sets.specs.declared.sample.Sample.{Sample}
use Rattle.xor_chunks.specs.Data.{data_at}
use Rattle.xor_chunks.specs.declared.refusal.XorRefusal.TheVariants as xor
use Rattle.xor_chunks.specs.declared.spanning.SampleSpan.{SampleSpan}
use Rattle.xor_chunks.specs.Spans.{span_of}
use Rattle.xor_chunks.specs.Widths.{stored_filling}
use Rattle.index_parts.specs.declared.chunk_place.ChunkPlace.{ChunkPlace}
use Rattle.index_parts.specs.declared.index_series.IndexSeries.{IndexSeries}
use Rattle.block_meta.specs.declared.meta.Meta.{Meta}
use Rattle.block_content.specs.ContentReading.{data_of, chunk_bytes, first_time}
use Rattle.block_content.specs.declared.chunk_cause.ChunkCause.{ChunkCause}
use Rattle.block_content.specs.declared.chunk_cause.ChunkCause.TheVariants.{File, Data}
use Rattle.block_content.specs.declared.places.Found.{Found}
use Rattle.block_content.specs.declared.places.Places.{Places}

-- ---- places

-- a number for each place: of two segments the later one's are greater, and of two offsets in one the greater one's
abbrev pub place_number : ChunkPlace → ℕ
place_number place = place.segment * 2 ^ 32 + place.offset

-- the places of all chunks, one series after another
abbrev pub places_of : List IndexSeries → List ChunkPlace
places_of indexed = flat_map (λ one. one.chunks) indexed

abbrev pub comes_behind : Option ℕ → ℕ → Bool
comes_behind None number = true
comes_behind (Some before) number = nat_lt before number

-- whether each place stands behind the one before it
unfoldable pub ascend : Option ℕ → List ChunkPlace → Bool
ascend before [] = true
ascend before (place ∷ places) = comes_behind before (place_number place) && ascend (Some (place_number place)) places

-- ---- what is found

-- the samples that the data at a place stands for
unfoldable pub stored_at : List (List ℕ) → ChunkPlace → Result (List Sample) ChunkCause
stored_at segments place = do
  content ← refused_as File (data_of segments place)
  refused_as Data (data_at stored_filling content)

-- the span lies within the block's times
abbrev pub lies_within : Meta → SampleSpan → Bool
lies_within meta span = int_le meta.min_time span.first && int_lt span.last meta.max_time

-- This was found of the data at a place: its length, the span of its samples, and the time of the first outside the block's times.
abbrev pub IsFoundAt : Meta → List (List ℕ) → ChunkPlace → Found → Type 0
IsFoundAt meta segments place found =
    (samples : List Sample) × (stored_at segments place ≡ Ok samples) × (found.span ≡ span_of samples) × (found.outside ≡ first_time meta samples) × (found.bytes ≡ chunk_bytes segments place)

-- What is found at a place, or the first refusal of its data, unless memory ran out.
abbrev pub Finds : Meta → List (List ℕ) → ChunkPlace → Result Found ChunkCause → Type 0
Finds meta segments place result = MatchResult result (IsFoundAt meta segments place) (λ e. (e ≡ Data xor.NoMemory) ⊎ (stored_at segments place ≡ Err e))

-- What was kept of places is found there.
abbrev pub AreFound : Meta → List (List ℕ) → Places → Type 0
AreFound meta segments places = (place : ChunkPlace) (found : Found) → place.offset < 2 ^ 32 → get nat_cmp places.found (place_number place) ≡ Some found → IsFoundAt meta segments place found

-- This is kept of a place, and what was kept of others stays.
abbrev pub IsKept : Places → Places → ChunkPlace → Found → Type 0
IsKept old new place found = (number : ℕ) → get nat_cmp new.found number ≡ cond (is_eq (nat_cmp (place_number place) number)) (Some found) (get nat_cmp old.found number)
