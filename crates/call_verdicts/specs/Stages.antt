-- How far the checks of a script's blocks are: which block is loaded, and which is checked.
use Rattle.std.specs.Prelude.{◌≡◌, ◌≢◌, ◌⊎◌, ◌++◌, ℕ, List, [], ◌∷◌, Option, IfSome, Result, Ok, Err}
use Rattle.block_content.specs.Checked.{checked_files, checked_samples, checked_series}
use Rattle.block_content.specs.Checking.{HasPassed}
use Rattle.block_content.specs.declared.checked.Checked.{Checked}
use Rattle.block_loading.specs.Loading.{AreWithinLimit, IsLoaded, RefusesOnShelf}
use Rattle.block_loading.specs.LoadedChecks.{EndsCheck, loaded_files, loaded_ulid}
use Rattle.block_loading.specs.declared.load_refusal.LoadRefusal.{LoadRefusal}
use Rattle.block_loading.specs.declared.load_refusal.LoadRefusal.TheVariants as load
use Rattle.block_loading.specs.declared.loaded_block.LoadedBlock.{LoadedBlock}
use Rattle.bucket_core.specs.Contents.{Contents}
use Rattle.script_core.specs.declared.block.Block.{Block}
use Rattle.script_core.specs.declared.body.Body.TheVariants.{OnShelf}
use Rattle.call_verdicts.specs.declared.check_way.Stage.{Stage}
use Rattle.call_verdicts.specs.declared.check_way.Stage.TheVariants as stage
use Rattle.call_verdicts.specs.declared.verdict.Verdict.{Verdict}
use Rattle.call_verdicts.specs.declared.verdict.Verdict.TheVariants as verdict

-- A block that was loaded is checked, and the end of that takes its place. Any other stays what it is.
abbrev pub IsCheckedAs : Stage → Stage → Type 0
IsCheckedAs stage.Aside new = new ≡ stage.Aside
IsCheckedAs (stage.Loaded block) (stage.Ended end) = EndsCheck (loaded_ulid block) (loaded_files block) end
IsCheckedAs (stage.Loaded block) (stage.Loaded other) = ⊥
IsCheckedAs (stage.Loaded block) stage.Aside = ⊥
IsCheckedAs (stage.Ended end) new = new ≡ stage.Ended end

-- These files were loaded for the block. They are the shelf's, where these are told.
pub record IsLoadOf (told : Option Contents) (ulid : ℕ) (block : LoadedBlock) : Type 0 where
  pub ulid_is : loaded_ulid block ≡ ulid
  pub within : AreWithinLimit (loaded_files block)
  pub of : IfSome told (λ files. IsLoaded files ulid (loaded_files block))

-- The files pass that were loaded for the block.
pub record IsPassOf (told : Option Contents) (ulid : ℕ) (checked : Checked) : Type 0 where
  pub passed : HasPassed ulid (checked_files checked) (checked_series checked) (checked_samples checked)
  pub within : AreWithinLimit (checked_files checked)
  pub of : IfSome told (λ files. IsLoaded files ulid (checked_files checked))

-- how the loading and the check of the block ended, which was not by a fault of the shelf
abbrev pub IsEndOf : Option Contents → ℕ → Result Checked LoadRefusal → Type 0
IsEndOf told ulid (Ok checked) = IsPassOf told ulid checked
IsEndOf told ulid (Err (load.Refused refusal)) = IfSome told (λ files. RefusesOnShelf files ulid refusal)
IsEndOf told ulid (Err load.NoMemory) = Unit {0}
IsEndOf told ulid (Err load.ShelfFault) = ⊥

-- the block is loaded, or its end is known
abbrev pub IsStageOf : Option Contents → ℕ → Stage → Type 0
IsStageOf told ulid stage.Aside = ⊥
IsStageOf told ulid (stage.Loaded block) = IsLoadOf told ulid block
IsStageOf told ulid (stage.Ended end) = IsEndOf told ulid end

-- so it is where the script takes the block from the shelf
abbrev pub IsLoadedFor : Option Contents → Block → Stage → Type 0
IsLoadedFor told block now =
    ((block.body ≢ OnShelf) × (now ≡ stage.Aside))
    ⊎ ((block.body ≡ OnShelf) × IsStageOf told block.ulid now)

-- and after the check its end is known
abbrev pub IsEndedFor : Option Contents → Block → Stage → Type 0
IsEndedFor told block now =
    ((block.body ≢ OnShelf) × (now ≡ stage.Aside))
    ⊎ ((block.body ≡ OnShelf) × (end : Result Checked LoadRefusal) × (now ≡ stage.Ended end) × IsEndOf told block.ulid end)

-- a block more is loaded
abbrev pub IsLoadedNext : Option Contents → Block → List Stage → List Stage → Type 0
IsLoadedNext told block old new = (one : Stage) × (new ≡ old ++ one ∷ []) × IsLoadedFor told block one

-- how far the check is, by the end of the loading; or what breaks the reading off
abbrev pub stage_of : Result LoadedBlock LoadRefusal → Result Stage Verdict
stage_of (Ok block) = Ok (stage.Loaded block)
stage_of (Err (load.Refused refusal)) = Ok (stage.Ended (Err (load.Refused refusal)))
stage_of (Err load.ShelfFault) = Err verdict.SiteFault
stage_of (Err load.NoMemory) = Err verdict.NoMemory
