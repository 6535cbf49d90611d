-- What the check of a block on a shelf comes to.
use Rattle.std.specs.Prelude.{◌≡◌, ℕ, List, Option, Some, None, IfSome}
use Rattle.block_meta.specs.declared.block_files.BlockFiles.{BlockFiles}
use Rattle.block_content.specs.Checking.{HasPassed}
use Rattle.block_content.specs.declared.check_refusal.CheckRefusal.{CheckRefusal}
use Rattle.block_loading.specs.Loading.{IsLoaded, RefusesOnShelf}
use Rattle.bucket_core.specs.Causes.{Rose}
pub use Rattle.report_lines.specs.lifecycle_core.specs.Shipped.{cause_number}
use Rattle.bucket_core.specs.Contents.{Contents, nothing}
use Rattle.bucket_core.specs.Told.{ShelfTold, SiteTold, next_shelf}
use Rattle.report_lines.specs.declared.check_outcome.CheckOutcome.{CheckOutcome}
use Rattle.report_lines.specs.declared.check_outcome.CheckOutcome.TheVariants.{Passed, Refused}
use Rattle.call_verdicts.specs.declared.status.Status.{Status}
use Rattle.call_verdicts.specs.declared.status.Status.TheVariants as status

-- the status of a check
abbrev pub check_status : CheckOutcome → Status
check_status (Passed series samples) = status.Done
check_status (Refused number) = status.ActivityFailed

-- ---- the outcome

-- The block has passed with these counts, and its files are the shelf's, where these are told.
pub record HasPassedOnShelf (told : Option Contents) (ulid series samples : ℕ) : Type 0 where
  pub files : BlockFiles
  pub passed : HasPassed ulid files series samples
  pub loaded : IfSome told (λ c. IsLoaded c ulid files)

-- The block is refused for the cause with this number, which is the first of loading, and then of the check, where the shelf's
-- files are told.
pub record IsRefusedOnShelf (told : Option Contents) (ulid number : ℕ) : Type 0 where
  pub refusal : CheckRefusal
  pub numbered : cause_number refusal ≡ Some number
  pub first : IfSome told (λ c. RefusesOnShelf c ulid refusal)

-- how the check of a block ended
abbrev pub IsCheckOf : Option Contents → ℕ → CheckOutcome → Type 0
IsCheckOf told ulid (Passed series samples) = HasPassedOnShelf told ulid series samples
IsCheckOf told ulid (Refused number) = IsRefusedOnShelf told ulid number

-- what a shelf tells that its files hold
abbrev pub files_held : {F : Type 0} → (F → ShelfTold) → F → Option Contents
files_held tells shelf = (tells shelf).files

-- what is told of the files of a shelf that was opened; without a shelf there are none
abbrev pub files_in : {F : Type 0} → (F → ShelfTold) → Option F → Option Contents
files_in tells None = Some nothing
files_in tells (Some shelf) = (tells shelf).files

-- what is told first, and where that is nothing then this
abbrev pub told_first : Option Contents → Option Contents → Option Contents
told_first (Some contents) other = Some contents
told_first None other = other

-- What is told of the files of the shelf that a word names: by the site that opened it, or else by the shelf. Where the word names
-- none there are no files.
abbrev pub files_of : {F : Type 0} → (F → ShelfTold) → SiteTold → Option (List ℕ) → Option F → Option Contents
files_of tells site None shelf = Some nothing
files_of tells site (Some name) None = next_shelf site name
files_of tells site (Some name) (Some shelf) = told_first (next_shelf site name) (tells shelf).files

-- the shelf has failed in a call
abbrev pub HasFailed : {F : Type 0} → (F → ShelfTold) → Option F → Option F → Type 0
HasFailed tells (Some old) (Some new) = Rose (tells old).faults (tells new).faults
HasFailed tells old new = ⊥
