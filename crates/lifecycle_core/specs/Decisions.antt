-- When a cleaning decides that a block is deleted.
use Rattle.std.specs.Prelude.{ℕ, List, [], ◌∷◌, ◌++◌, None}
use Rattle.lifecycle_core.specs.CleaningOps.{IsDecision}
use Rattle.world_core.specs.declared.entry.Entry.{Entry}
use Rattle.cleaner.specs.Cleanings.{CleanRun}
use Rattle.world_core.specs.Journals.{of_seat}
use Rattle.lifecycle_core.specs.Setting.{Setting}

-- The entries of its seat until this one, which follows these in the journal, are a cleaning by the script's rules, which decides here
-- that the block is deleted.
pub record DecidesToDelete (setting : Setting) (before : List Entry) (e : Entry) (ulid : ℕ) : Type 0 where
  pub cleans : CleanRun setting.script.rules (of_seat e.seat before ++ e ∷ []) None
  pub why : IsDecision setting.script.rules ulid e
