-- What is at hand of the blocks that a script takes from a shelf.
use Rattle.std.specs.Prelude.{◌≡◌, ◌==◌, ℕ, List, [], All, Option, None, Some, IfSome, option_map, find, Result, Ok, Err}
use Rattle.block_keys.specs.Blocks.{IsBlock}
use Rattle.block_keys.specs.declared.key.Key.TheVariants.{Meta}
use Rattle.block_keys.specs.declared.object.Object.{Object}
use Rattle.block_meta.specs.declared.block_files.BlockFiles.{BlockFiles}
use Rattle.block_meta.specs.declared.build_refusal.BuildRefusal.{BuildRefusal}
use Rattle.block_meta.specs.declared.build_refusal.BuildRefusal.TheVariants as build
use Rattle.block_meta.specs.Bounds.{HasFittingNumbers}
use Rattle.block_meta.specs.MetaFields.{fields_of}
use Rattle.block_meta.specs.MetaValue.{meta_text}
use Rattle.block_meta.specs.Built.{objects_of}
use Rattle.block_merging.specs.PutContent.{AreBytes}
use Rattle.block_content.specs.Checking.{Passes}
use Rattle.block_content.specs.ContentReading.{content_at}
use Rattle.block_content.specs.Shipped.{shipped_meta}
use Rattle.block_content.specs.declared.check_refusal.CheckRefusal.{CheckRefusal}
use Rattle.block_content.specs.declared.check_refusal.CheckRefusal.TheVariants.{NoFile}
use Rattle.label_sets.specs.declared.series.Series.{Series}
use Rattle.script_core.specs.declared.block.Block.{Block}
use Rattle.script_core.specs.declared.body.Body.TheVariants.{OnShelf}
use Rattle.script_core.specs.declared.script.Script.{Script}
use Rattle.lifecycle_core.specs.Setting.{FromShelf, Setting, holding, refusing}
use Rattle.lifecycle_core.specs.Shipped.{AreShort, cause_number, no_file_cause, too_large_cause}
use Rattle.script_running.specs.declared.unshipped.Unshipped.{Unshipped}
use Rattle.script_running.specs.declared.unshipped.Unshipped.TheVariants as unshipped
use Rattle.script_running.specs.declared.shelf.ShelfBlock.{ShelfBlock}
use Rattle.script_running.specs.declared.shelf.ShelfFound.{ShelfFound}
use Rattle.script_running.specs.declared.shelf.ShelfFound.TheVariants.{Objects, Refused}

-- ---- the setting of a run

abbrev pub list_in : Result (List Series) CheckRefusal → List Series
list_in (Ok list) = list
list_in (Err refusal) = []

-- the series that files hold, if they hold any
abbrev pub series_in : BlockFiles → List Series
series_in files = list_in (content_at files)

-- what was read for a block
abbrev pub found_in : List ShelfBlock → ℕ → Option ShelfFound
found_in shelf ulid = option_map (λ (block : ShelfBlock). block.found) (find (λ (block : ShelfBlock). block.ulid == ulid) shelf)

-- a block of which nothing was read is not there
abbrev pub read_as : ℕ → Option ShelfFound → FromShelf
read_as ulid None = refusing (NoFile (Meta ulid))
read_as ulid (Some (Objects objects files)) = holding files.value (series_in files.value)
read_as ulid (Some (Refused number refusal)) = refusing refusal.value

-- a script, and what was read of the shelf for its blocks
abbrev pub setting_by : Script → List ShelfBlock → Setting
setting_by script shelf = record { script = script; shelf = λ ulid. read_as ulid (found_in shelf ulid) }

-- ---- the objects

-- These are the objects with which the block is shipped, where its files are these.
pub record AreObjects (block : Block) (objects : List Object) (files : BlockFiles) : Type 0 where
  pub passes : Passes block.ulid files (series_in files)
  pub bytes : AreBytes files
  pub short : AreShort files
  pub numbers : HasFittingNumbers (fields_of files.meta)
  pub are : objects ≡ objects_of block.ulid files.segments files.index
      (meta_text (shipped_meta files.meta files.segments files.index block.labels))
  pub own : IsBlock block.ulid objects

-- what was read of a block is at hand
abbrev pub IsHeld : Block → ShelfFound → Type 0
IsHeld block (Objects objects files) = AreObjects block objects files.value
IsHeld block (Refused number refusal) = number ≡ cause_number refusal.value

-- where the script takes the block from the shelf, what was read of it is at hand
abbrev pub IsAtHand : List ShelfBlock → Block → Type 0
IsAtHand shelf block = block.body ≡ OnShelf → IfSome (found_in shelf block.ulid) (IsHeld block)

-- of each block that the script takes from the shelf
abbrev pub AreAllAtHand : Script → List ShelfBlock → Type 0
AreAllAtHand script shelf = All (IsAtHand shelf) script.blocks

-- The setting tells of the block what was read for it, and that is at hand.
pub record Knows (setting : Setting) (shelf : List ShelfBlock) (block : Block) : Type 0 where
  pub told : setting.shelf block.ulid ≡ read_as block.ulid (found_in shelf block.ulid)
  pub hand : IsAtHand shelf block

-- ---- what comes of them

abbrev pub numbered_by : Option ℕ → Unshipped
numbered_by (Some number) = unshipped.Refused number
numbered_by None = unshipped.NoMemory

abbrev pub from_found : Option ShelfFound → Result (List Object) Unshipped
from_found None = Err (unshipped.Refused no_file_cause)
from_found (Some (Objects objects files)) = Ok objects
from_found (Some (Refused number refusal)) = Err (numbered_by number)

abbrev pub from_built : Result (List Object) BuildRefusal → Result (List Object) Unshipped
from_built (Ok objects) = Ok objects
from_built (Err build.TooLarge) = Err (unshipped.Refused too_large_cause)
from_built (Err build.NoMemory) = Err unshipped.NoMemory

-- what is said of a cause's number, where a block is refused
abbrev pub WhereRefused : (ℕ → Type 0) → Unshipped → Type 0
WhereRefused Says (unshipped.Refused number) = Says number
WhereRefused Says unshipped.NoMemory = Unit {0}
