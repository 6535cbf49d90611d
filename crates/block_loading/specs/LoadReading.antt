-- What loading a block from told files gives, or the first refusal.
use Rattle.std.specs.Prelude.{◌≡◌, ◌⊎◌, ℕ, zero, suc, ◌+◌, ◌<◌, ◌≤◌, List, [], ◌∷◌, length, Option, None, Some, Bool, true, false, IsTrue, Result, Ok, Err, IfOk, IfErr, MatchResult, nat_lt, if◌then◌else◌}
use Rattle.base.specs.Reading.{◌>>=◌, refused_as}
use Rattle.block_keys.specs.declared.key.Key.{Key}
use Rattle.block_keys.specs.declared.key.Key.TheVariants.{Meta, Index, Segment}
use Rattle.block_keys.specs.KeyText.{key_text}
use Rattle.block_meta.specs.MetaFields.{MetaFields, fields_of}
use Rattle.block_meta.specs.MetaReading.{meta_of_text}
use Rattle.block_meta.specs.declared.refusal.MetaRefusal.{MetaRefusal}
use Rattle.block_meta.specs.declared.refusal.MetaRefusal.TheVariants as meta
use Rattle.index_parts.specs.declared.index_series.IndexSeries.{IndexSeries}
use Rattle.block_meta.specs.declared.block_files.BlockFiles.{BlockFiles}
use Rattle.block_content.specs.ContentReading.{index_at, refused_index}
use Rattle.block_content.specs.declared.check_refusal.CheckRefusal.{CheckRefusal}
use Rattle.block_content.specs.declared.check_refusal.CheckRefusal.TheVariants as check
use Rattle.bucket_core.specs.Causes.{Rose}
use Rattle.bucket_core.specs.Contents.{Contents}
use Rattle.bucket_core.specs.Asking.{Asks}
use Rattle.bucket_core.specs.Told.{ShelfTold}
use Rattle.block_loading.specs.Loading.{limit_of, load_limit, last_segment, HasSegments, Reaches, StopsAt, key_after, names_after, names_read}
use Rattle.block_loading.specs.declared.load_refusal.LoadRefusal.{LoadRefusal}
use Rattle.block_loading.specs.declared.load_refusal.LoadRefusal.TheVariants.{Refused, ShelfFault, NoMemory}

-- ---- calls

-- loading was broken off
abbrev pub IsBrokenOff : LoadRefusal → Type 0
IsBrokenOff e = (e ≡ NoMemory) ⊎ (e ≡ ShelfFault)

abbrev pub WasBrokenOff : {X : Type 0} → Result X LoadRefusal → Type 0
WasBrokenOff {X} result = (result ≡ Err NoMemory) ⊎ (result ≡ Err ShelfFault)

-- What a call returned, seen by view, is what the reading function gives, unless it was broken off.
abbrev pub Loads : {X Y : Type 0} → (X → Y) → Result X LoadRefusal → Result Y LoadRefusal → Type 0
Loads {X} {Y} view result read = MatchResult result (λ x. read ≡ Ok (view x)) (λ e. IsBrokenOff e ⊎ (read ≡ Err e))

-- The same of the index of a block, whose series are not kept.
abbrev pub LoadsIndex : Result (List ℕ × ℕ) LoadRefusal → Result (List ℕ × List IndexSeries) LoadRefusal → Type 0
LoadsIndex result read = MatchResult result (λ x. (indexed : List IndexSeries) → index_at x.0 ≡ Ok indexed → read ≡ Ok (x.0, indexed)) (λ e. IsBrokenOff e ⊎ (read ≡ Err e))

-- what is said of the block, if it was refused and loading not broken off
abbrev pub IfRefused : (CheckRefusal → Type 0) → LoadRefusal → Type 0
IfRefused Says (Refused refusal) = Says refusal
IfRefused Says ShelfFault = Unit {0}
IfRefused Says NoMemory = Unit {0}

-- the file under the key is not there, or it or the block is too large
abbrev pub RefusesFile : Key → CheckRefusal → Type 0
RefusesFile key (check.NoFile other) = other ≡ key
RefusesFile key (check.TooLarge other) = other ≡ key
RefusesFile key (check.BadMeta refusal) = ⊥
RefusesFile key (check.BadIndex refusal) = ⊥
RefusesFile key check.UlidDiffers = ⊥
RefusesFile key check.NotLevelOne = ⊥
RefusesFile key check.SourcesNotSelf = ⊥
RefusesFile key check.Downsampled = ⊥
RefusesFile key check.EmptyBlock = ⊥
RefusesFile key (check.BadChunk series chunk cause) = ⊥
RefusesFile key (check.OutsideRange series time) = ⊥
RefusesFile key (check.Repeated series) = ⊥
RefusesFile key check.NamesTooMuch = ⊥
RefusesFile key check.NoMemory = ⊥

abbrev pub is_fault : LoadRefusal → Bool
is_fault (Refused refusal) = false
is_fault ShelfFault = true
is_fault NoMemory = false

-- whether a call ended with a fault of the shelf
abbrev pub was_fault : {X : Type 0} → Result X LoadRefusal → Bool
was_fault {X} (Ok x) = false
was_fault {X} (Err e) = is_fault e

-- A call read files of a shelf, and ended with a fault or not. It leaves the files as they were. The count of faults rises
-- where the call ended with a fault, and there alone.
pub record KeepsShelf {S : Type 0} (tells : S → ShelfTold) (old new : S) (fault : Bool) : Type 0 where
  pub same : (tells new).files ≡ (tells old).files
  pub later : (tells old).faults ≤ (tells new).faults
  pub cause : IsTrue fault → Rose (tells old).faults (tells new).faults
  pub calm : fault ≡ false → (tells new).faults ≡ (tells old).faults

-- A call asked for the file under a key, if there was memory for its name.
abbrev pub AsksFile : {S X : Type 0} → (S → ShelfTold) → S → S → Key → Result X LoadRefusal → Type 0
AsksFile {S} {X} tells old new key result =
    Asks (tells old).asked (tells new).asked (key_text key ∷ []) ⊎ (Asks (tells old).asked (tells new).asked [] × (result ≡ Err NoMemory))

-- Before the last one of so many files was asked for, no reading had failed.
abbrev pub FailsAtLast : {S : Type 0} → (S → ShelfTold) → S → (ℕ → List (List ℕ)) → ℕ → Type 0
FailsAtLast {S} tells old names count =
    (before : ℕ) × (count ≡ before + 1) × ((mid : S) × Asks (tells old).asked (tells mid).asked (names before) × ((tells mid).faults ≡ (tells old).faults))

-- A call asked for so many files of a block, each once, in the order of reading. Where the files are told, each of these is
-- reached. If one more is reached, then the call was broken off. Where the block was refused, this is where that may be, and a
-- fault is that of the last file.
pub record AsksInOrder {S X : Type 0} (tells : S → ShelfTold) (old new : S) (ulid : ℕ) (Stops : ℕ → CheckRefusal → Type 0) (segments : X → List (List ℕ)) (result : Result X LoadRefusal) : Type 0 where
  pub count : ℕ
  pub names : Asks (tells old).asked (tells new).asked (names_read ulid count)
  pub reached : (told : Contents) → (tells old).files ≡ Some told → (place : ℕ) → place < count → Reaches told ulid (key_after ulid place)
  pub all : (told : Contents) → (tells old).files ≡ Some told → Reaches told ulid (key_after ulid count) → WasBrokenOff result
  pub whole : IfOk result (λ x. count ≡ 2 + length (segments x))
  pub stopped : IfErr result (IfRefused (Stops count))
  pub failed : IsTrue (was_fault result) → FailsAtLast tells old (names_read ulid) count

-- A call asked for segments of a block, of which there are so many, each once and from the first on. Where the files are told,
-- all before one that it asked for stand. If all that it asked for stand, then these are all, or the call was broken off.
pub record AsksSegments {S X : Type 0} (tells : S → ShelfTold) (old new : S) (ulid many : ℕ) (result : Result X LoadRefusal) : Type 0 where
  pub count : ℕ
  pub names : Asks (tells old).asked (tells new).asked (names_after ulid 2 count)
  pub within : count ≤ many
  pub reached : (told : Contents) → (tells old).files ≡ Some told → (place : ℕ) → place < count → (before : List (List ℕ)) × HasSegments told ulid before × (length before ≡ place)
  pub all : (told : Contents) → (tells old).files ≡ Some told → (before : List (List ℕ)) → HasSegments told ulid before → length before ≡ count → (count ≡ many) ⊎ WasBrokenOff result
  pub whole : IfOk result (λ x. count ≡ many)
  pub stopped : IfErr result (IfRefused (StopsAt ulid (2 + count)))
  pub failed : IsTrue (was_fault result) → FailsAtLast tells old (names_after ulid 2) count

-- ---- reading

-- a refusal of the block, of which one for want of memory is none
abbrev pub refused_block : CheckRefusal → LoadRefusal
refused_block check.NoMemory = NoMemory
refused_block refusal = Refused refusal

abbrev pub refused_meta : MetaRefusal → LoadRefusal
refused_meta meta.NoMemory = NoMemory
refused_meta refusal = Refused (check.BadMeta refusal)

-- the bytes of a file, if there is one
abbrev pub file_in : Key → Option (List ℕ) → Result (List ℕ) LoadRefusal
file_in key None = Err (Refused (check.NoFile key))
file_in key (Some bytes) = if nat_lt (limit_of key) (length bytes) then Err (Refused (check.TooLarge key)) else Ok bytes

unfoldable pub file_at : Contents → Key → Result (List ℕ) LoadRefusal
file_at told key = file_in key (told (key_text key))

unfoldable pub meta_at : Contents → ℕ → Result MetaFields LoadRefusal
meta_at told ulid = do
  text ← file_at told (Meta ulid)
  refused_as refused_meta (meta_of_text text)

-- the index, and its series
unfoldable pub index_in : Contents → ℕ → Result (List ℕ × List IndexSeries) LoadRefusal
index_in told ulid = do
  index ← file_at told (Index ulid)
  indexed ← refused_as (λ e. refused_block (refused_index e)) (index_at index)
  Ok (index, indexed)

-- a segment, behind others that have so many bytes together
abbrev pub fit_behind : Key → ℕ → List ℕ → Result (List ℕ) LoadRefusal
fit_behind key before bytes = if nat_lt load_limit (before + length bytes) then Err (Refused (check.TooLarge key)) else Ok bytes

unfoldable pub segment_at : Contents → Key → ℕ → Result (List ℕ) LoadRefusal
segment_at told key before = do
  bytes ← file_at told key
  fit_behind key before bytes

-- so many segments, of which the first has this number, behind others that have so many bytes together
unfoldable pub segments_at : Contents → ℕ → ℕ → ℕ → ℕ → Result (List (List ℕ)) LoadRefusal
segments_at told ulid number before zero = Ok []
segments_at told ulid number before (suc count) = do
  segment ← segment_at told (Segment ulid number) before
  others ← segments_at told ulid (suc number) (before + length segment) count
  Ok (segment ∷ others)

-- the files of a block
pub record BlockParts : Type 0 where
  pub meta : MetaFields
  pub index : List ℕ
  pub segments : List (List ℕ)

abbrev pub parts_of : BlockFiles → BlockParts
parts_of files = record { meta = fields_of files.meta; index = files.index; segments = files.segments }

unfoldable pub load_at : Contents → ℕ → Result BlockParts LoadRefusal
load_at told ulid = do
  meta ← meta_at told ulid
  index ← index_in told ulid
  segments ← segments_at told ulid 1 0 (last_segment index.1)
  Ok (record { meta = meta; index = index.0; segments = segments })
