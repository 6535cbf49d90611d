-- What checking a block gives: the series that it holds, or the first refusal.
use Rattle.std.specs.Prelude.{◌≡◌, ℕ, ℤ, List, [], ◌∷◌, length, Bool, true, false, Result, Ok, Err, pos, ◌==◌, Option, None, Some, MatchOption, MatchResult, ◌⊎◌}
use Rattle.std.specs.Ordering.{int_eq}
use Rattle.base.specs.Reading.{◌>>=◌, ◌>>◌, unless, refused_as}
use Rattle.label_sets.specs.declared.series.Series.{Series}
use Rattle.label_sets.specs.Counts.{sample_count}
use Rattle.index_parts.specs.declared.index_series.IndexSeries.{IndexSeries}
use Rattle.block_meta.specs.declared.meta.Meta.{Meta}
use Rattle.block_content.specs.ContentReading.{index_at, refused_index, chunked_at, contents_at, fitted}
use Rattle.block_content.specs.Named.{names_few}
use Rattle.block_content.specs.ReadBytes.{reads_few}
use Rattle.block_content.specs.declared.check_refusal.CheckRefusal.{CheckRefusal}
use Rattle.block_content.specs.declared.check_refusal.CheckRefusal.TheVariants.{UlidDiffers, NotLevelOne, SourcesNotSelf, Downsampled, EmptyBlock, OutsideRange, Repeated, NamesTooMuch, NoMemory}

-- a block is the only one of the sources
abbrev pub is_alone : ℕ → List ℕ → Bool
is_alone ulid [] = false
is_alone ulid (source ∷ []) = source == ulid
is_alone ulid (source ∷ other ∷ sources) = false

-- what the meta says
unfoldable pub own_at : ℕ → Meta → Result (Unit {0}) CheckRefusal
own_at ulid meta = do
  unless (meta.ulid == ulid) UlidDiffers
  unless (meta.level == 1) NotLevelOne
  unless (is_alone ulid meta.sources) SourcesNotSelf
  unless (int_eq meta.resolution (pos 0)) Downsampled

abbrev pub has_series : List IndexSeries → Bool
has_series [] = false
has_series (one ∷ indexed) = true

-- what the files hold, which is something, of which little is read, and which names little
unfoldable pub some_at : Meta → List ℕ → List (List ℕ) → List IndexSeries → Result (List Series) CheckRefusal
some_at meta index segments indexed = do
  unless (has_series indexed) EmptyBlock
  unless (reads_few segments indexed) NamesTooMuch
  list ← chunked_at meta segments indexed
  unless (names_few index segments indexed) NamesTooMuch
  Ok list

unfoldable pub files_at : Meta → List ℕ → List (List ℕ) → Result (List Series) CheckRefusal
files_at meta index segments = do
  indexed ← refused_as refused_index (index_at index)
  some_at meta index segments indexed

unfoldable pub check_at : ℕ → Meta → List ℕ → List (List ℕ) → Result (List Series) CheckRefusal
check_at ulid meta index segments = do
  own_at ulid meta
  files_at meta index segments

-- ---- what is counted

-- how many series and samples were read
abbrev pub HaveCounts : Result (List Series) CheckRefusal → ℕ × ℕ → Type 0
HaveCounts read counts = (list : List Series) × (read ≡ Ok list) × (counts.0 ≡ length list) × (counts.1 ≡ sample_count list)

-- what was found first, if anything was, with the number of the series as one of 32 bits
abbrev pub IsFirstFound : Option (ℕ × ℤ) → Option (ℕ × ℤ) → Type 0
IsFirstFound first found = MatchOption found (first ≡ None) (λ told. (place : ℕ) × (first ≡ Some (place, told.1)) × (told.0 ≡ fitted place))

-- the refusal of what was found
abbrev pub found_at : Option (ℕ × ℤ) → Option ℕ → Result (Unit {0}) CheckRefusal
found_at (Some told) repeated = Err (OutsideRange told.0 told.1)
found_at None (Some series) = Err (Repeated series)
found_at None None = Ok tt

-- ---- what is tested alone

-- The series of the index were read, and all that the files hold; or the first refusal of these, unless memory ran out.
abbrev pub IsTested : Meta → List ℕ → List (List ℕ) → Result (List IndexSeries) CheckRefusal → Type 0
IsTested meta index segments result = MatchResult result
    (λ indexed. (index_at index ≡ Ok indexed) × ((list : List Series) × (contents_at meta index segments ≡ Ok list)))
    (λ e. (e ≡ NoMemory) ⊎ (contents_at meta index segments ≡ Err e))
