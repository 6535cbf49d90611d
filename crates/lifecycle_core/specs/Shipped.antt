-- The objects that an upload ships for a declared block.
use Rattle.std.specs.Prelude.{◌≡◌, ◌≢◌, ◌≤◌, ℕ, ℤ, List, [], ◌∷◌, length, codes, Contains, Option, Some, None}
use Rattle.std.specs.List.{AllByRecursion}
use Rattle.block_keys.specs.declared.object.Object.{Object}
use Rattle.block_meta.specs.declared.block_plan.BlockPlan.{BlockPlan}
use Rattle.block_meta.specs.Bounds.{HasFittingNumbers}
use Rattle.block_keys.specs.declared.key.Key.{Key}
use Rattle.block_keys.specs.declared.key.Key.TheVariants.{Meta}
use Rattle.block_meta.specs.MetaFields.{fields_of}
use Rattle.block_meta.specs.MetaValue.{meta_text}
use Rattle.block_meta.specs.Built.{objects_of}
use Rattle.block_meta.specs.declared.block_files.BlockFiles.{BlockFiles}
use Rattle.block_writing.specs.Built.{HaveNoBlock, IsBuilt}
use Rattle.block_merging.specs.PutContent.{AreBytes}
use Rattle.block_content.specs.Checking.{Passes}
use Rattle.block_content.specs.Shipped.{shipped_meta}
use Rattle.block_content.specs.declared.check_refusal.CheckRefusal.{CheckRefusal}
use Rattle.block_content.specs.declared.check_refusal.CheckRefusal.TheVariants as cause
use Rattle.bucket_core.specs.Files.{file_limit}
use Rattle.script_core.specs.declared.block.Block.{Block}
use Rattle.script_core.specs.declared.body.Body.{Body}
use Rattle.script_core.specs.declared.body.Body.TheVariants.{Inline, OnShelf}
use Rattle.label_sets.specs.declared.series.Series.{Series}
use Rattle.lifecycle_core.specs.Held.{declared}
use Rattle.lifecycle_core.specs.Setting.{Setting, holding, refusing}

-- what a declared block says of itself: level 1, itself as its one source, made by a sidecar
pub record IsPlanOf (block : Block) (min_time max_time : ℤ) (plan : BlockPlan) : Type 0 where
  pub ulid : plan.ulid ≡ block.ulid
  pub early : plan.min_time ≡ min_time
  pub late : plan.max_time ≡ max_time
  pub level : plan.level ≡ 1
  pub sources : plan.sources ≡ block.ulid ∷ []
  pub parents : plan.parents ≡ []
  pub labels : plan.labels ≡ block.labels
  pub source : plan.source ≡ codes "sidecar"

-- The objects are those of the files that are built of these series under such a plan.
pub record IsInlineBlock (block : Block) (min_time max_time : ℤ) (series : List Series) (objects : List Object) : Type 0 where
  pub plan : BlockPlan
  pub planned : IsPlanOf block min_time max_time plan
  pub files : BlockFiles
  pub built : IsBuilt plan series files
  pub bytes : AreBytes files
  pub are : objects ≡ objects_of block.ulid files.segments files.index (meta_text (fields_of files.meta))

-- no file of a block passes the limit
pub record AreShort (files : BlockFiles) : Type 0 where
  pub index : length files.index ≤ file_limit
  pub segments : AllByRecursion (λ segment. length segment ≤ file_limit) files.segments

-- The objects are the segments and the index of the files that the shelf has of the block, which pass and hold the series that were
-- read; and their meta as it is shipped, with the labels that the script declares.
pub record IsShelfBlock (setting : Setting) (block : Block) (objects : List Object) : Type 0 where
  pub files : BlockFiles
  pub series : List Series
  pub read : setting.shelf block.ulid ≡ holding files series
  pub passes : Passes block.ulid files series
  pub bytes : AreBytes files
  pub short : AreShort files
  pub numbers : HasFittingNumbers (fields_of files.meta)
  pub are : objects ≡ objects_of block.ulid files.segments files.index
      (meta_text (shipped_meta files.meta files.segments files.index block.labels))

abbrev pub AreBuilt : Setting → Block → Body → List Object → Type 0
AreBuilt setting block (Inline min_time max_time series) objects = IsInlineBlock block min_time max_time series objects
AreBuilt setting block OnShelf objects = IsShelfBlock setting block objects

abbrev pub IsShipped : Setting → Block → List Object → Type 0
IsShipped setting block objects = AreBuilt setting block block.body objects

-- the numbers of two causes in the list of causes below: that a file is not there, and that one is too large
abbrev pub no_file_cause : ℕ
no_file_cause = 1

abbrev pub too_large_cause : ℕ
too_large_cause = 7

-- The block is not shipped, for a cause of this number: the index of a block that is built would pass its greatest length.
pub record IsNotBuilt (block : Block) (min_time max_time : ℤ) (series : List Series) (cause : ℕ) : Type 0 where
  pub plan : BlockPlan
  pub planned : IsPlanOf block min_time max_time plan
  pub none : HaveNoBlock plan series
  pub is : cause ≡ too_large_cause

-- the place of a cause in the list of causes, which is counted from 1; want of memory is no cause
abbrev pub cause_number : CheckRefusal → Option ℕ
cause_number (cause.NoFile key) = Some no_file_cause
cause_number (cause.BadMeta refusal) = Some 2
cause_number cause.UlidDiffers = Some 3
cause_number cause.NotLevelOne = Some 4
cause_number cause.SourcesNotSelf = Some 5
cause_number cause.Downsampled = Some 6
cause_number (cause.TooLarge key) = Some too_large_cause
cause_number (cause.BadIndex refusal) = Some 8
cause_number cause.EmptyBlock = Some 9
cause_number (cause.BadChunk series chunk why) = Some 10
cause_number (cause.OutsideRange series time) = Some 11
cause_number (cause.Repeated series) = Some 12
cause_number cause.NamesTooMuch = Some 13
cause_number cause.NoMemory = None

-- The shelf has no such block, or its files do not pass, for a cause of this number.
pub record IsNotOnShelf (setting : Setting) (block : Block) (number : ℕ) : Type 0 where
  pub refusal : CheckRefusal
  pub read : setting.shelf block.ulid ≡ refusing refusal
  pub numbered : cause_number refusal ≡ Some number

abbrev pub IsRefusedAs : Setting → Block → Body → ℕ → Type 0
IsRefusedAs setting block (Inline min_time max_time series) cause = IsNotBuilt block min_time max_time series cause
IsRefusedAs setting block OnShelf cause = IsNotOnShelf setting block cause

abbrev pub IsRefused : Setting → Block → ℕ → Type 0
IsRefused setting block cause = IsRefusedAs setting block block.body cause

-- An object with which the declared block is shipped, other than its meta, stands under the key.
pub record IsShippedUnder (setting : Setting) (ulid : ℕ) (key : Key) : Type 0 where
  pub block : Block
  pub is : declared setting.script ulid ≡ Some block
  pub objects : List Object
  pub shipped : IsShipped setting block objects
  pub bytes : List ℕ
  pub among : Contains objects (record { key = key; bytes = bytes })
  pub other : key ≢ Meta ulid
