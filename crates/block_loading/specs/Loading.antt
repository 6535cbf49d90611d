-- Which block a shelf has under a ULID, and why it has none that is shipped. The files of a block are its meta, its index, and
-- the segments from the first to the greatest that the index names. They are looked at in this order.
use Rattle.std.specs.Prelude.{◌≡◌, ◌≢◌, ◌⊎◌, ℕ, zero, suc, ◌+◌, ◌^◌, ◌<◌, ◌≤◌, min, max, sum_by, List, [], ◌∷◌, length, All, map, slice_get, None, Some, IsSomeAnd, Ok, Err}
use Rattle.std.specs.List.{flat_map}
use Rattle.block_keys.specs.Keys.{segment_limit}
use Rattle.label_sets.specs.declared.series.Series.{Series}
use Rattle.block_keys.specs.declared.key.Key.{Key}
use Rattle.block_keys.specs.declared.key.Key.TheVariants.{Meta, Index, Segment, Mark}
use Rattle.block_keys.specs.KeyText.{key_text}
use Rattle.block_meta.specs.Bounds.{HasFew}
use Rattle.block_meta.specs.MetaFields.{MetaFields, fields_of}
use Rattle.block_meta.specs.MetaReading.{meta_of_text}
use Rattle.block_meta.specs.declared.refusal.MetaRefusal.{MetaRefusal}
use Rattle.block_meta.specs.declared.refusal.MetaRefusal.TheVariants as meta
use Rattle.index_parts.specs.declared.chunk_place.ChunkPlace.{ChunkPlace}
use Rattle.index_parts.specs.declared.index_series.IndexSeries.{IndexSeries}
use Rattle.index_v2.specs.declared.refusal.IndexRefusal.{IndexRefusal}
use Rattle.index_v2.specs.declared.refusal.IndexRefusal.TheVariants as index
use Rattle.block_meta.specs.declared.block_files.BlockFiles.{BlockFiles}
use Rattle.block_content.specs.ContentReading.{index_at}
use Rattle.block_content.specs.Checking.{Passes, RefusesBlock}
use Rattle.block_content.specs.declared.check_refusal.CheckRefusal.{CheckRefusal}
use Rattle.block_content.specs.declared.check_refusal.CheckRefusal.TheVariants.{NoFile, BadMeta, UlidDiffers, NotLevelOne, SourcesNotSelf, Downsampled, TooLarge, BadIndex, EmptyBlock, BadChunk, OutsideRange, Repeated, NamesTooMuch, NoMemory}
use Rattle.bucket_core.specs.Contents.{Contents}
use Rattle.bucket_core.specs.Files.{file_limit}

-- ---- files

-- how many bytes the meta of a block may have
abbrev pub meta_limit : ℕ
meta_limit = 2 ^ 22

-- how many bytes the file under a key may have
abbrev pub limit_of : Key → ℕ
limit_of (Meta owner) = meta_limit
limit_of key = file_limit

-- The file under the key has these bytes, and does not pass its limit.
pub record HasFile (told : Contents) (key : Key) (bytes : List ℕ) : Type 0 where
  pub stands : told (key_text key) ≡ Some bytes
  pub within : length bytes ≤ limit_of key

-- the meta of the block is this one
pub record HasMeta (told : Contents) (ulid : ℕ) (meta : MetaFields) : Type 0 where
  pub text : List ℕ
  pub file : HasFile told (Meta ulid) text
  pub reads : meta_of_text text ≡ Ok meta

-- the index of the block is this one, and is of these series
pub record HasIndex (told : Contents) (ulid : ℕ) (index : List ℕ) (indexed : List IndexSeries) : Type 0 where
  pub file : HasFile told (Index ulid) index
  pub reads : index_at index ≡ Ok indexed

-- how many bytes the segments of a block may have together
abbrev pub load_limit : ℕ
load_limit = 2 ^ 30

-- The segments of the block, which are numbered from 1, begin with these. Together they do not pass the limit.
pub record HasSegments (told : Contents) (ulid : ℕ) (segments : List (List ℕ)) : Type 0 where
  pub files : (place : ℕ) (bytes : List ℕ) → slice_get segments place ≡ Some bytes → HasFile told (Segment ulid (place + 1)) bytes
  pub together : sum_by length segments ≤ load_limit

-- ---- how large a block is, whatever a shelf tells

-- The meta was read of a text that does not pass its limit, and no list of it has more members than that text has bytes.
pub record IsOfText (meta : MetaFields) : Type 0 where
  pub text : List ℕ
  pub within : length text ≤ meta_limit
  pub reads : meta_of_text text ≡ Ok meta
  pub few : HasFew meta (length text)

-- No file of the block passes its limit, nor do the segments together.
pub record AreWithinLimit (files : BlockFiles) : Type 0 where
  pub meta_is : IsOfText (fields_of files.meta)
  pub index_is : length files.index ≤ file_limit
  pub segments_are : All (λ (segment : List ℕ). length segment ≤ file_limit) files.segments
  pub together : sum_by length files.segments ≤ load_limit

-- ---- the segments that an index names

-- the number of the file in which a chunk stands, of which none passes 999,999
abbrev pub file_number : ChunkPlace → ℕ
file_number place = min (place.segment + 1) segment_limit

unfoldable pub greatest : List ℕ → ℕ
greatest [] = 0
greatest (number ∷ numbers) = max number (greatest numbers)

-- the greatest number of a file that the series name, and 0 where they have no chunks
unfoldable pub last_segment : List IndexSeries → ℕ
last_segment indexed = greatest (map file_number (flat_map (λ one. one.chunks) indexed))

-- This is the greatest number of a file that the series of an index name.
abbrev pub NamesLast : List ℕ → ℕ → Type 0
NamesLast index last = (indexed : List IndexSeries) × (index_at index ≡ Ok indexed) × (last ≡ last_segment indexed)

-- The block has as many segments as its index names.
abbrev pub AreNamed : BlockFiles → Type 0
AreNamed files = NamesLast files.index (length files.segments)

-- ---- the block

-- The shelf has these files of the block, and these are all that its index names.
pub record IsLoaded (told : Contents) (ulid : ℕ) (files : BlockFiles) : Type 0 where
  pub indexed : List IndexSeries
  pub meta_is : HasMeta told ulid (fields_of files.meta)
  pub index_is : HasIndex told ulid files.index indexed
  pub segments_are : HasSegments told ulid files.segments
  pub all : length files.segments ≡ last_segment indexed

-- ---- why there is none

-- The index names a segment of this number or of a greater one, and all before it stand and do not pass the limit together.
pub record ReachesSegment (told : Contents) (ulid number : ℕ) : Type 0 where
  pub meta : MetaFields
  pub meta_is : HasMeta told ulid meta
  pub index : List ℕ
  pub indexed : List IndexSeries
  pub index_is : HasIndex told ulid index indexed
  pub first : 1 ≤ number
  pub named : number ≤ last_segment indexed
  pub before : List (List ℕ)
  pub before_are : HasSegments told ulid before
  pub all_before : length before + 1 ≡ number

-- The file is one of the block's, and all that are looked at before it stand and are read.
abbrev pub Reaches : Contents → ℕ → Key → Type 0
Reaches told ulid (Meta owner) = owner ≡ ulid
Reaches told ulid (Index owner) = (owner ≡ ulid) × ((meta : MetaFields) × HasMeta told ulid meta)
Reaches told ulid (Segment owner number) = (owner ≡ ulid) × ReachesSegment told ulid number
Reaches told ulid (Mark owner) = ⊥

-- The file is a segment that passes, with those before it, the limit of all together.
pub record PassesTogether (told : Contents) (ulid : ℕ) (key : Key) : Type 0 where
  pub before : List (List ℕ)
  pub before_are : HasSegments told ulid before
  pub key_is : key ≡ Segment ulid (length before + 1)
  pub bytes : List ℕ
  pub file : HasFile told key bytes
  pub much : load_limit < sum_by length before + length bytes

-- The block cannot be loaded, and this is why.
abbrev pub RefusesLoad : Contents → ℕ → CheckRefusal → Type 0
RefusesLoad told ulid (NoFile key) = Reaches told ulid key × (told (key_text key) ≡ None)
RefusesLoad told ulid (TooLarge key) = Reaches told ulid key × (IsSomeAnd (told (key_text key)) (λ bytes. limit_of key < length bytes) ⊎ PassesTogether told ulid key)
RefusesLoad told ulid (BadMeta refusal) = (text : List ℕ) × HasFile told (Meta ulid) text × (meta_of_text text ≡ Err refusal) × (refusal ≢ meta.NoMemory)
RefusesLoad told ulid (BadIndex refusal) = (fields : MetaFields) × (bytes : List ℕ) × HasMeta told ulid fields × HasFile told (Index ulid) bytes × (index_at bytes ≡ Err refusal) × (refusal ≢ index.NoMemory)
RefusesLoad told ulid UlidDiffers = ⊥
RefusesLoad told ulid NotLevelOne = ⊥
RefusesLoad told ulid SourcesNotSelf = ⊥
RefusesLoad told ulid Downsampled = ⊥
RefusesLoad told ulid EmptyBlock = ⊥
RefusesLoad told ulid (BadChunk series chunk cause) = ⊥
RefusesLoad told ulid (OutsideRange series time) = ⊥
RefusesLoad told ulid (Repeated series) = ⊥
RefusesLoad told ulid NamesTooMuch = ⊥
RefusesLoad told ulid NoMemory = ⊥

-- ---- the order of reading

-- the file of a block that comes after so many others: its meta, its index, and then its segments from the first on
abbrev pub key_after : ℕ → ℕ → Key
key_after ulid zero = Meta ulid
key_after ulid (suc zero) = Index ulid
key_after ulid (suc (suc number)) = Segment ulid (number + 1)

-- the names of so many files of a block that come after so many others
unfoldable pub names_after : ℕ → ℕ → ℕ → List (List ℕ)
names_after ulid before zero = []
names_after ulid before (suc count) = key_text (key_after ulid before) ∷ names_after ulid (suc before) count

-- the names of so many files of a block, from its meta on
abbrev pub names_read : ℕ → ℕ → List (List ℕ)
names_read ulid count = names_after ulid 0 count

-- ---- where a refused load stops, whatever a shelf tells

-- the last one of so many files of a block
abbrev pub IsLast : ℕ → ℕ → Key → Type 0
IsLast ulid count key = (before : ℕ) × (count ≡ before + 1) × (key ≡ key_after ulid before)

-- A text that does not pass the limit of metas is refused as one for this.
pub record IsBadMeta (refusal : MetaRefusal) : Type 0 where
  pub text : List ℕ
  pub within : length text ≤ meta_limit
  pub reads : meta_of_text text ≡ Err refusal
  pub told : refusal ≢ meta.NoMemory

-- Bytes that do not pass the limit are refused as an index for this.
pub record IsBadIndex (refusal : IndexRefusal) : Type 0 where
  pub bytes : List ℕ
  pub within : length bytes ≤ file_limit
  pub reads : index_at bytes ≡ Err refusal
  pub told : refusal ≢ index.NoMemory

-- A load that asked for so many files may be refused for this: the last file that it asked for is not there, or is too large, or
-- it is a meta or an index that is not read.
abbrev pub StopsAt : ℕ → ℕ → CheckRefusal → Type 0
StopsAt ulid count (NoFile key) = IsLast ulid count key
StopsAt ulid count (TooLarge key) = IsLast ulid count key
StopsAt ulid count (BadMeta refusal) = (count ≡ 1) × IsBadMeta refusal
StopsAt ulid count (BadIndex refusal) = (count ≡ 2) × IsBadIndex refusal
StopsAt ulid count UlidDiffers = ⊥
StopsAt ulid count NotLevelOne = ⊥
StopsAt ulid count SourcesNotSelf = ⊥
StopsAt ulid count Downsampled = ⊥
StopsAt ulid count EmptyBlock = ⊥
StopsAt ulid count (BadChunk series chunk cause) = ⊥
StopsAt ulid count (OutsideRange series time) = ⊥
StopsAt ulid count (Repeated series) = ⊥
StopsAt ulid count NamesTooMuch = ⊥
StopsAt ulid count NoMemory = ⊥

-- A check that asked for so many files may be refused for this: these are all files of a block, and it does not pass.
pub record StopsAfter (ulid count : ℕ) (refusal : CheckRefusal) : Type 0 where
  pub files : BlockFiles
  pub within : AreWithinLimit files
  pub named : AreNamed files
  pub count_is : count ≡ 2 + length files.segments
  pub refused : RefusesBlock ulid files refusal

-- for the first reason or for the second
abbrev pub StopsOnShelf : ℕ → ℕ → CheckRefusal → Type 0
StopsOnShelf ulid count refusal = StopsAt ulid count refusal ⊎ StopsAfter ulid count refusal

-- ---- loaded and checked

-- The shelf has the block, and it passes and holds these series.
pub record PassesOnShelf (told : Contents) (ulid : ℕ) (files : BlockFiles) (list : List Series) : Type 0 where
  pub loaded : IsLoaded told ulid files
  pub passes : Passes ulid files list

-- why a block of the shelf is not shipped: why it cannot be loaded, and else why it does not pass
abbrev pub RefusesOnShelf : Contents → ℕ → CheckRefusal → Type 0
RefusesOnShelf told ulid refusal = RefusesLoad told ulid refusal ⊎ ((files : BlockFiles) × IsLoaded told ulid files × RefusesBlock ulid files refusal)
