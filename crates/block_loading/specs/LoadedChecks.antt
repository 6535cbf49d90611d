-- What the check of a loaded block comes to.
use Rattle.std.specs.Prelude.{◌≡◌, ℕ, Result, Ok, Err}
use Rattle.block_meta.specs.declared.block_files.BlockFiles.{BlockFiles}
use Rattle.block_content.specs.Verdict.{IsVerdict}
use Rattle.block_content.specs.declared.checked.Checked.{Checked}
use Rattle.block_content.specs.declared.check_refusal.CheckRefusal.{CheckRefusal}
use Rattle.block_loading.specs.LoadReading.{refused_block}
use Rattle.block_loading.specs.declared.load_refusal.LoadRefusal.{LoadRefusal}
use Rattle.block_loading.specs.declared.loaded_block.LoadedBlock.{LoadedBlock}

-- the block that was to be loaded, and the files that were
abbrev pub loaded_ulid : LoadedBlock → ℕ
loaded_ulid block = block.ulid

abbrev pub loaded_files : LoadedBlock → BlockFiles
loaded_files block = block.files

-- how a check ends, by the verdict on the files
abbrev pub end_of : Result Checked CheckRefusal → Result Checked LoadRefusal
end_of (Ok checked) = Ok checked
end_of (Err refusal) = Err (refused_block refusal)

-- These files were checked under the ULID, and the check ended so.
abbrev pub EndsCheck : ℕ → BlockFiles → Result Checked LoadRefusal → Type 0
EndsCheck ulid files end = (verdict : Result Checked CheckRefusal) × IsVerdict ulid files verdict × (end ≡ end_of verdict)
