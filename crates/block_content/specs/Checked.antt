-- What is inside a block that passed a check.
use Rattle.std.specs.Prelude.{ℕ}
use Rattle.block_meta.specs.declared.block_files.BlockFiles.{BlockFiles}
use Rattle.block_content.specs.declared.checked.Checked.{Checked}

abbrev pub checked_files : Checked → BlockFiles
checked_files checked = checked.files

-- how many series the block holds, and how many samples
abbrev pub checked_series : Checked → ℕ
checked_series checked = checked.series

abbrev pub checked_samples : Checked → ℕ
checked_samples checked = checked.samples
