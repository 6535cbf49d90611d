-- What a check of a block answers.
use Rattle.std.specs.Prelude.{◌≡◌, ◌⊎◌, ℕ, List, length, Result, Err, IfOk, IfErr}
use Rattle.std.specs.Result.{IsOkAnd}
use Rattle.label_sets.specs.declared.series.Series.{Series}
use Rattle.label_sets.specs.Counts.{sample_count}
use Rattle.block_meta.specs.declared.block_files.BlockFiles.{BlockFiles}
use Rattle.block_content.specs.declared.checked.Checked.{Checked}
use Rattle.block_content.specs.declared.check_refusal.CheckRefusal.{CheckRefusal}
use Rattle.block_content.specs.declared.check_refusal.CheckRefusal.TheVariants.{NoMemory}
use Rattle.block_content.specs.Checked.{checked_files, checked_series, checked_samples}
use Rattle.block_content.specs.Checking.{Passes, HasPassed, RefusesBlock}

-- A block that passes is handed back with its counts, and no other is. A refusal is the first of the whole block. Memory may run
-- out in place of either.
pub record IsVerdict (ulid : ℕ) (files : BlockFiles) (result : Result Checked CheckRefusal) : Type 0 where
  pub found : IfOk result (λ checked. (checked_files checked ≡ files) × HasPassed ulid files (checked_series checked) (checked_samples checked))
  pub passes : (list : List Series) → Passes ulid files list
      → IsOkAnd result (λ checked. (checked_files checked ≡ files) × (checked_series checked ≡ length list) × (checked_samples checked ≡ sample_count list)) ⊎ (result ≡ Err NoMemory)
  pub refused : IfErr result (λ refusal. (refusal ≡ NoMemory) ⊎ RefusesBlock ulid files refusal)
  pub refuses : (refusal : CheckRefusal) → RefusesBlock ulid files refusal → (result ≡ Err refusal) ⊎ (result ≡ Err NoMemory)
