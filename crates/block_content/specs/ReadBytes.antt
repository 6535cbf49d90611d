-- How many bytes of chunks a check reads, by the lengths that stand before their data.
use Rattle.std.specs.Prelude.{ℕ, ◌*◌, ◌/◌, ◌%◌, ◌^◌, ◌≤◌, nat_le, ◌==◌, if◌then◌else◌, Bool, List, [], ◌∷◌, length, drop, sum_by, slice_get, Option, None, Some}
use Rattle.std.specs.List.{list_any}
use Rattle.wire_bytes.specs.Position.{start}
use Rattle.wire_bytes.specs.Fields.{uvarint_at}
use Rattle.index_parts.specs.Parts.{told}
use Rattle.index_parts.specs.declared.chunk_place.ChunkPlace.{ChunkPlace}
use Rattle.index_parts.specs.declared.index_series.IndexSeries.{IndexSeries}
use Rattle.index_parts.specs.IndexFile.{IsIndex}
use Rattle.block_meta.specs.declared.block_files.BlockFiles.{BlockFiles}
use Rattle.block_content.specs.Named.{counted, chunk_share}
use Rattle.block_content.specs.StoredPlaces.{place_number, places_of}

-- a length, and nothing where fewer bytes are left
abbrev pub if_left : ℕ → ℕ → ℕ
if_left size left = if nat_le size left then size else 0

-- how many bytes of data the length at the front tells
abbrev pub told_behind : List ℕ → ℕ
told_behind bytes = if_left (told (uvarint_at (start bytes))) (length bytes)

abbrev pub told_in : Option (List ℕ) → ℕ → ℕ
told_in None offset = 0
told_in (Some segment) offset = told_behind (drop offset segment)

-- the same at a place
abbrev pub told_bytes : List (List ℕ) → ChunkPlace → ℕ
told_bytes segments place = told_in (slice_get segments place.segment) place.offset

-- the same at the place of a number
abbrev pub told_there : List (List ℕ) → ℕ → ℕ
told_there segments number = told_in (slice_get segments (number / 2 ^ 32)) (number % 2 ^ 32)

-- whether another chunk stands at the same place
abbrev pub stands_with : ChunkPlace → ChunkPlace → Bool
stands_with place other = place_number place == place_number other

-- one chunk of each place: the last of those that stand there
unfoldable pub each_once : List ChunkPlace → List ChunkPlace
each_once [] = []
each_once (place ∷ places) = if list_any (stands_with place) places then each_once places else place ∷ each_once places

-- The data at each place is read once, however many chunks stand there.
abbrev pub read_bytes : List (List ℕ) → List ChunkPlace → ℕ
read_bytes segments places = sum_by (told_bytes segments) (each_once places)

abbrev pub reads_few : List (List ℕ) → List IndexSeries → Bool
reads_few segments indexed = nat_le (counted (read_bytes segments (places_of indexed))) (counted (chunk_share * sum_by length segments))

-- What is read of chunks is little for the segments' bytes.
pub record ReadsFew (files : BlockFiles) : Type 0 where
  pub indexed : List IndexSeries
  pub index_is : IsIndex files.index indexed
  pub bytes : counted (read_bytes files.segments (places_of indexed)) ≤ counted (chunk_share * sum_by length files.segments)
