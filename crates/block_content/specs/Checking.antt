-- Which blocks pass, and why another does not: first what the meta says, in its order, and then what the files hold.
use Rattle.std.specs.Prelude.{◌≡◌, ◌≢◌, ◌⊎◌, ℕ, List, [], ◌∷◌, length, pos}
use Rattle.label_sets.specs.declared.series.Series.{Series}
use Rattle.label_sets.specs.Counts.{sample_count}
use Rattle.index_parts.specs.declared.index_series.IndexSeries.{IndexSeries}
use Rattle.index_parts.specs.IndexFile.{IsIndex}
use Rattle.block_meta.specs.declared.meta.Meta.{Meta}
use Rattle.block_content.specs.Content.{IsContent}
use Rattle.block_content.specs.ContentRefusals.{RefusesContent}
use Rattle.block_content.specs.Named.{NamesFew}
use Rattle.block_content.specs.ReadBytes.{ReadsFew}
use Rattle.block_meta.specs.declared.block_files.BlockFiles.{BlockFiles}
use Rattle.block_content.specs.declared.check_refusal.CheckRefusal.{CheckRefusal}
use Rattle.block_content.specs.declared.check_refusal.CheckRefusal.TheVariants.{NoFile, BadMeta, UlidDiffers, NotLevelOne, SourcesNotSelf, Downsampled, TooLarge, BadIndex, EmptyBlock, BadChunk, OutsideRange, Repeated, NamesTooMuch, NoMemory}

-- The meta is that of this block, which was compacted of no other and has all its samples.
pub record IsOwn (ulid : ℕ) (meta : Meta) : Type 0 where
  pub ulid_is : meta.ulid ≡ ulid
  pub first_level : meta.level ≡ 1
  pub one_source : meta.sources ≡ ulid ∷ []
  pub sampled : meta.resolution ≡ pos 0

-- The block passes, and holds these series, which name little for its bytes.
pub record Passes (ulid : ℕ) (files : BlockFiles) (list : List Series) : Type 0 where
  pub own : IsOwn ulid files.meta
  pub content : IsContent files list
  pub some : list ≢ []
  pub few : NamesFew files

-- The block passes, and holds so many series and samples.
pub record HasPassed (ulid : ℕ) (files : BlockFiles) (series samples : ℕ) : Type 0 where
  pub list : List Series
  pub passes : Passes ulid files list
  pub series_are : series ≡ length list
  pub samples_are : samples ≡ sample_count list

-- The files have an index, and too much would be read of the chunks that it names.
pub record ReadsMuch (files : BlockFiles) : Type 0 where
  pub indexed : List IndexSeries
  pub index_is : IsIndex files.index indexed
  pub much : ReadsFew files → ⊥

-- The files hold series, and what these name is too much.
pub record HoldsMuch (files : BlockFiles) : Type 0 where
  pub list : List Series
  pub content : IsContent files list
  pub some : list ≢ []
  pub much : NamesFew files → ⊥

-- The block does not pass, and this is why.
abbrev pub RefusesBlock : ℕ → BlockFiles → CheckRefusal → Type 0
RefusesBlock ulid files UlidDiffers = files.meta.ulid ≢ ulid
RefusesBlock ulid files NotLevelOne = (files.meta.ulid ≡ ulid) × (files.meta.level ≢ 1)
RefusesBlock ulid files SourcesNotSelf = (files.meta.ulid ≡ ulid) × (files.meta.level ≡ 1) × (files.meta.sources ≢ ulid ∷ [])
RefusesBlock ulid files Downsampled = (files.meta.ulid ≡ ulid) × (files.meta.level ≡ 1) × (files.meta.sources ≡ ulid ∷ []) × (files.meta.resolution ≢ pos 0)
RefusesBlock ulid files (BadIndex refusal) = IsOwn ulid files.meta × RefusesContent files (BadIndex refusal)
RefusesBlock ulid files EmptyBlock = IsOwn ulid files.meta × IsIndex files.index []
RefusesBlock ulid files (BadChunk series chunk cause) = IsOwn ulid files.meta × ReadsFew files × RefusesContent files (BadChunk series chunk cause)
RefusesBlock ulid files (OutsideRange series time) = IsOwn ulid files.meta × ReadsFew files × RefusesContent files (OutsideRange series time)
RefusesBlock ulid files (Repeated series) = IsOwn ulid files.meta × ReadsFew files × RefusesContent files (Repeated series)
RefusesBlock ulid files NamesTooMuch = IsOwn ulid files.meta × (ReadsMuch files ⊎ HoldsMuch files)
RefusesBlock ulid files (NoFile key) = ⊥
RefusesBlock ulid files (BadMeta refusal) = ⊥
RefusesBlock ulid files (TooLarge key) = ⊥
RefusesBlock ulid files NoMemory = ⊥
