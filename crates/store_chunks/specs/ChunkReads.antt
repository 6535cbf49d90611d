-- The reads of chunks: of each segment groups of chunks that stand near one another, and behind each group its chunks that
-- stick out of what was read. A chunk is tested as soon as the read that holds it is answered; of its samples those in the query's
-- range are kept.
use Rattle.std.specs.Prelude.{ℕ, ◌+◌, ◌-◌, ◌==◌, nat_lt, nat_le, int_lt, int_le, Bool, true, false, ◌&&◌, List, [], ◌∷◌, ◌++◌, map, drop, zip, Result, Ok}
use Rattle.std.specs.List.{filter, list_all}
use Rattle.block_keys.specs.Keys.{segment_limit}
use Rattle.base.specs.Reading.{◌>>=◌, ◌>>◌, unless, refused_as}
use Rattle.wire_bytes.specs.Fields.{uvarint_at}
use Rattle.label_sets.specs.declared.sample.Sample.{Sample}
use Rattle.block_keys.specs.declared.key.Key.TheVariants.{Segment}
use Rattle.matchers.specs.Selected.{is_between}
use Rattle.world_core.specs.Plans.{Plan, ends, finds, choose}
use Rattle.world_core.specs.declared.op.Op.TheVariants.{GetRange}
use Rattle.xor_chunks.specs.Data.{data_at}
use Rattle.xor_chunks.specs.Widths.{stored_filling}
use Rattle.chunk_files.specs.Layout.{header_size, greatest, frame_size}
use Rattle.chunk_files.specs.ChunkReading.{chunk_at}
use Rattle.index_parts.specs.Placed.{at_place}
use Rattle.index_parts.specs.declared.chunk_place.ChunkPlace.{ChunkPlace}
use Rattle.index_parts.specs.SeriesEntry.{reference_of}
use Rattle.base.specs.Firsts.{each_at}
use Rattle.block_content.specs.ContentReading.{are_some, have_times_of}
use Rattle.store_ranges.specs.OneCut.{one_cut}
use Rattle.store_ranges.specs.OneSet.{one_set}
use Rattle.store_ranges.specs.ChunkRanges.{IsSetOf, IsNear, AreGroups, offset_of, Group, group_of}
use Rattle.store_ranges.specs.Reads.{Query, Block, Cache, Break, damaged, reads, if_read}

-- ---- one chunk

-- how many bytes the chunk at a place of these bytes takes: its length, its encoding, its data and their sum
unfoldable pub chunk_len_at : List ℕ → ℕ → Result ℕ (Unit {0})
chunk_len_at bytes at = do
  size ← refused_as (λ _. tt) (uvarint_at (at_place bytes at))
  unless (nat_le size.0 greatest) tt
  Ok (size.1.place - at + size.0 + frame_size)

-- Whether these are the samples of a chunk at the place: there are some, with the times that the place tells, within the block's.
-- No chunk stands in the header of a segment.
abbrev pub is_chunk_of : Block → List Sample → ChunkPlace → Bool
is_chunk_of block samples place =
    are_some samples && have_times_of place samples && int_le block.min_time place.min && int_lt place.max block.max_time
    && nat_le header_size place.offset

-- the samples of the chunk with which these bytes begin
unfoldable pub stored_at : List ℕ → Result (List Sample) (Unit {0})
stored_at bytes = do
  content ← refused_as (λ _. tt) (chunk_at bytes)
  refused_as (λ _. tt) (data_at stored_filling content)

-- the same, where it is the chunk of each of these places
unfoldable pub tested_at : Block → List ChunkPlace → List ℕ → Result (List Sample) (Unit {0})
tested_at block places bytes = do
  samples ← stored_at bytes
  unless (list_all (is_chunk_of block samples) places) tt
  Ok samples

-- the samples that lie in the range of a query
abbrev pub in_range : Query → List Sample → List Sample
in_range query samples = filter (λ s. is_between query.low query.high s.time) samples

-- those of a chunk, all of which was tested
unfoldable pub chunk_samples_at : Query → Block → List ChunkPlace → List ℕ → Result (List Sample) (Unit {0})
chunk_samples_at query block places bytes = do
  samples ← tested_at block places bytes
  Ok (in_range query samples)

-- the places of a reference
abbrev pub places_at : List ChunkPlace → ℕ → List ChunkPlace
places_at places reference = filter (λ place. reference_of place == reference) places

-- a reading of the bytes at a reference, as those of a chunk, whose samples in the range it gives
abbrev pub Tests : Type 0
Tests = ℕ → List ℕ → Result (List Sample) (Unit {0})

-- that of a chunk which is as each of these places tells
abbrev pub tests_at : Query → Block → List ChunkPlace → ℕ → List ℕ → Result (List Sample) (Unit {0})
tests_at query block places reference bytes = chunk_samples_at query block (places_at places reference) bytes

-- ---- a group

-- what the read of a group shows of a chunk
pub data Glimpse : Type 0 where
  -- the whole of it, which has these samples in the range
  shows : List Sample → Glimpse
  -- only that it takes so many bytes, and so sticks out
  sticks_out : ℕ → Glimpse

abbrev pub glimpse : Bool → Result (List Sample) (Unit {0}) → ℕ → Result Glimpse (Unit {0})
glimpse true samples len = samples >>= λ list. Ok (shows list)
glimpse false samples len = Ok (sticks_out len)

-- of the chunk at a reference of the group
unfoldable pub glimpse_at : Tests → Group → List ℕ → ℕ → Result Glimpse (Unit {0})
glimpse_at tests group bytes reference = do
  len ← chunk_len_at bytes (reference - group.first)
  glimpse (nat_le (reference - group.first + len) group.piece.len) (tests reference (drop (reference - group.first) bytes)) len

-- the samples in the range of the chunk at a reference
pub record Read : Type 0 where
  pub reference : ℕ
  pub samples : List Sample

abbrev pub read : ℕ → List Sample → Read
read reference samples = record { reference = reference; samples = samples }

-- ---- the reads

module _ {E : Type 0} (breaks : Break → Cache → E) (ulid : ℕ) (tests : Tests) (cache : Cache) where
  abbrev pub Shows : Type 1
  Shows = List Read → Plan E

  -- the read of a chunk of a group that sticks out, whose samples stand behind those that were read before
  abbrev pub reads_one : Group → ℕ → ℕ → Shows → List Read → Plan E
  reads_one group reference len next found =
      reads breaks (GetRange (Segment ulid group.segment) (offset_of reference) len) cache
      (λ seq bytes. if_read (tests reference bytes)
      (λ samples. next (found ++ read reference samples ∷ [])) (ends (breaks (damaged seq) cache)))

  -- the chunks of a group in their order, of which those that stick out are read
  abbrev pub reads_out : Group → Shows → List (ℕ × Glimpse) → List Read → Plan E
  reads_out group next [] found = next found
  reads_out group next ((reference, shows samples) ∷ chunks) found = reads_out group next chunks (found ++ read reference samples ∷ [])
  reads_out group next ((reference, sticks_out len) ∷ chunks) found = reads_one group reference len (reads_out group next chunks) found

  -- the read of a group
  abbrev pub reads_group : Group → Shows → List Read → Plan E
  reads_group group next found =
      reads breaks (GetRange (Segment ulid group.segment) group.piece.from group.piece.len) cache
      (λ seq bytes. if_read (each_at (glimpse_at tests group bytes) group.references)
      (λ glimpses. reads_out group next (zip group.references glimpses) found) (ends (breaks (damaged seq) cache)))

  -- group by group
  abbrev pub reads_groups : Shows → List Group → List Read → Plan E
  reads_groups next [] found = next found
  reads_groups next (group ∷ groups) found = reads_group group (reads_groups next groups) found

  -- the chunks of these references
  abbrev pub reads_references : Shows → List ℕ → Plan E
  reads_references next references =
      finds (AreGroups references) (one_cut IsNear references) (λ groups. reads_groups next (map group_of groups) [])

-- the segments of these places have numbers that a key can have
abbrev pub have_keys : List ChunkPlace → Bool
have_keys places = list_all (λ place. nat_lt place.segment segment_limit) places

module _ {E : Type 0} (breaks : Break → Cache → E) (query : Query) (block : Block) where
  -- The chunks at these places, where no segment has a number beyond those that a key can have. Last is the entry of the last
  -- read of the index, which shows the places.
  abbrev pub reads_chunks : List ChunkPlace → Cache → ℕ → (List Read → Plan E) → Plan E
  reads_chunks places cache last next =
      choose (have_keys places)
      (finds (IsSetOf (map reference_of places)) (one_set (map reference_of places))
      (reads_references breaks block.ulid (tests_at query block places) cache next))
      (ends (breaks (damaged last) cache))
