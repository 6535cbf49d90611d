-- What a call reads of the shelf for the blocks of its script.
use Rattle.std.specs.Prelude.{◌≡◌, ◌≢◌, ◌⊎◌, ℕ, List, [], ◌∷◌, ◌++◌, All, Contains, Option, Some, IfSome, Result, Ok, Err}
use Rattle.base.specs.Grammar.{IsBytes}
use Rattle.block_keys.specs.declared.key.Key.TheVariants.{Meta}
use Rattle.block_content.specs.Checked.{checked_files}
use Rattle.block_content.specs.declared.check_refusal.CheckRefusal.TheVariants.{NoFile}
use Rattle.block_content.specs.declared.checked.Checked.{Checked}
use Rattle.block_loading.specs.declared.load_refusal.LoadRefusal.{LoadRefusal}
use Rattle.block_loading.specs.declared.load_refusal.LoadRefusal.TheVariants as load
use Rattle.block_loading.specs.Loading.{PassesOnShelf, RefusesOnShelf, names_read}
use Rattle.bucket_core.specs.Asking.{Asks}
use Rattle.bucket_core.specs.Causes.{Rose}
use Rattle.bucket_core.specs.Contents.{Contents}
use Rattle.bucket_core.specs.Told.{ShelfTold}
use Rattle.script_core.specs.declared.block.Block.{Block}
use Rattle.script_core.specs.declared.script.Script.{Script}
use Rattle.script_core.specs.declared.body.Body.TheVariants.{OnShelf}
use Rattle.report_lines.specs.lifecycle_core.specs.Setting.{FromShelf, Setting, holding, refusing, setting_of}
use Rattle.report_lines.specs.script_running.specs.Shelves.{IsHeld, found_in, read_as, series_in, setting_by}
use Rattle.report_lines.specs.script_running.specs.declared.shelf.ShelfBlock.{ShelfBlock}
use Rattle.report_lines.specs.script_running.specs.declared.shelf.ShelfFound.{ShelfFound}
use Rattle.call_verdicts.specs.declared.verdict.Verdict.{Verdict}
use Rattle.call_verdicts.specs.declared.verdict.Verdict.TheVariants as verdict

-- ---- the files of a shelf that tells them

-- What was read for a block is what the shelf has: files that pass, with the series that they hold, or the first cause for which the
-- block is refused.
abbrev pub IsReadOf : Contents → ℕ → FromShelf → Type 0
IsReadOf told ulid (holding files series) = PassesOnShelf told ulid files series
IsReadOf told ulid (refusing refusal) = RefusesOnShelf told ulid refusal

-- the script takes no block with this ULID from the shelf
abbrev pub TakesNone : List Block → ℕ → Type 0
TakesNone blocks ulid = (block : Block) → Contains blocks block → block.body ≡ OnShelf → block.ulid ≢ ulid

-- So it is of each block that the script takes from the shelf. For any other nothing was read.
pub record IsOfShelf (setting : Setting) (told : Contents) : Type 0 where
  pub taken : All (λ block. block.body ≡ OnShelf → IsReadOf told block.ulid (setting.shelf block.ulid)) setting.script.blocks
  pub others : (ulid : ℕ) → TakesNone setting.script.blocks ulid → setting.shelf ulid ≡ refusing (NoFile (Meta ulid))

-- all that a shelf tells of its files is bytes
abbrev pub HoldsBytes : Contents → Type 0
HoldsBytes told = (name bytes : List ℕ) → told name ≡ Some bytes → IsBytes bytes

-- ---- one block

-- What was read of the block, where the shelf's files are told.
pub record IsFoundOf (told : Option Contents) (block : Block) (read : ShelfBlock) : Type 0 where
  pub ulid : read.ulid ≡ block.ulid
  pub held : IsHeld block read.found
  pub of : IfSome told (λ files. IsReadOf files block.ulid (read_as block.ulid (Some read.found)))

-- by the end of its check: the files that pass, or the refusal
abbrev pub IsReadBy : Result Checked LoadRefusal → FromShelf → Type 0
IsReadBy (Ok checked) read = read ≡ holding (checked_files checked) (series_in (checked_files checked))
IsReadBy (Err (load.Refused refusal)) read = read ≡ refusing refusal
IsReadBy (Err load.ShelfFault) read = ⊥
IsReadBy (Err load.NoMemory) read = ⊥

-- Reading was broken off: the shelf has failed, or there was no memory, and it has not.
abbrev pub WhyUnread : ℕ → ℕ → Verdict → Type 0
WhyUnread before after v = ((v ≡ verdict.SiteFault) × Rose before after) ⊎ ((v ≡ verdict.NoMemory) × (after ≡ before))

-- the same of the shelf of a call, if there is one
abbrev pub IsBrokenOff : Type 0 → Verdict → Type 0
IsBrokenOff failed v = ((v ≡ verdict.SiteFault) × failed) ⊎ (v ≡ verdict.NoMemory)

-- the shelf was asked for files of the block, where the script takes it from there
abbrev pub AsksFor : {F : Type 0} → (F → ShelfTold) → F → F → Block → Type 0
AsksFor tells old new block =
    ((block.body ≢ OnShelf) × Asks (tells old).asked (tells new).asked [])
    ⊎ ((block.body ≡ OnShelf) × (count : ℕ) × Asks (tells old).asked (tells new).asked (names_read block.ulid count))

-- the setting of a run, by what was read
abbrev pub setting_read : Script → Result (List ShelfBlock) Verdict → Setting
setting_read script (Ok blocks) = setting_by script blocks
setting_read script (Err v) = setting_of script

-- a block more is read, where the script takes it from the shelf
abbrev pub IsReadNext : Option Contents → Block → List ShelfBlock → List ShelfBlock → Type 0
IsReadNext told block old new =
    ((block.body ≢ OnShelf) × (new ≡ old))
    ⊎ ((block.body ≡ OnShelf) × (one : ShelfBlock) × (new ≡ old ++ one ∷ []) × IsFoundOf told block one)

-- These blocks were read, those of them that are taken from the shelf.
pub record AreRead (told : Option Contents) (blocks : List Block) (read : List ShelfBlock) : Type 0 where
  pub each : All (λ (one : ShelfBlock). (block : Block) × Contains blocks block × IsFoundOf told block one × (block.body ≡ OnShelf)) read
  pub whole : All (λ (block : Block). block.body ≡ OnShelf → (found : ShelfFound) × (found_in read block.ulid ≡ Some found)) blocks
