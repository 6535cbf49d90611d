-- Scripts that delete nothing, and scripts that mark nothing.
use Rattle.std.specs.Prelude.{◌≢◌, ℕ, All, Option}
use Rattle.script_core.specs.declared.script.Script.{Script}
use Rattle.script_workers.specs.Works.{works_of}
use Rattle.script_workers.specs.declared.work.Work.TheVariants.{Compact, Clean}

-- no line of the script is a cleaning
abbrev pub DeletesNothing : Script → Type 0
DeletesNothing script = All (λ work. (stop : Option ℕ) → work ≢ Clean stop) (works_of script.phases)

-- no line of the script is a compaction
abbrev pub CompactsNothing : Script → Type 0
CompactsNothing script = All (λ work. (stop : Option ℕ) → work ≢ Compact stop) (works_of script.phases)
