-- What a run is a run of.
use Rattle.std.specs.Prelude.{ℕ, List}
use Rattle.block_keys.specs.declared.key.Key.TheVariants.{Meta}
use Rattle.block_meta.specs.declared.block_files.BlockFiles.{BlockFiles}
use Rattle.block_content.specs.declared.check_refusal.CheckRefusal.{CheckRefusal}
use Rattle.block_content.specs.declared.check_refusal.CheckRefusal.TheVariants.{NoFile}
use Rattle.label_sets.specs.declared.series.Series.{Series}
use Rattle.script_core.specs.declared.script.Script.{Script}

-- What was read of a shelf for a block.
pub data FromShelf : Type 0 where
  -- its files, and the series that they hold
  holding : BlockFiles → List Series → FromShelf
  -- why it is not shipped
  refusing : CheckRefusal → FromShelf

-- A script, and what was read of the shelf for each block that it takes from there.
pub record Setting : Type 0 where
  pub script : Script
  pub shelf : ℕ → FromShelf

-- a script over a shelf without files
abbrev pub setting_of : Script → Setting
setting_of script = record { script = script; shelf = λ ulid. refusing (NoFile (Meta ulid)) }
