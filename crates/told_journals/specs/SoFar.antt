-- How far entries are runs of a script, taken at their word, phase by phase: what the lemmas on told journals speak of, and no law yet.
use Rattle.std.specs.Prelude.{◌≡◌, ◌⊎◌, ◌≤◌, ◌-◌, ℕ, List, ◌++◌, length, take, drop, slice_get, Some}
use Rattle.world_core.specs.declared.entry.Entry.{Entry}
use Rattle.script_workers.specs.declared.phase.Phase.{Phase}
use Rattle.lifecycle_core.specs.Holdings.{Holdings, none_held}
use Rattle.lifecycle_core.specs.Setting.{Setting}
use Rattle.lifecycle_core.specs.Tasks.{End}
use Rattle.lifecycle_core.specs.Ways.{PhasesRun}
use Rattle.told_journals.specs.Told.{told_way}

-- the runs of a script's phases from a number on, taken at their word
abbrev pub Ran : Setting → ℕ → Holdings → List Phase → List Entry → List (List (List End)) → Type 0
Ran setting = PhasesRun (told_way setting)

-- those of all its phases
abbrev pub RanAll : Setting → List Entry → List (List (List End)) → Type 0
RanAll setting = Ran setting 0 none_held setting.script.phases

-- entries, if there are any, begin with one of the clock's seat
abbrev pub BeginsAnew : List Entry → Type 0
BeginsAnew entries = (e : Entry) → slice_get entries 0 ≡ Some e → e.seat ≡ 0

-- The phases before a number were begun, and their workers came to these ends by the entries before a place. What goes on with the
-- later phases goes on with all, and the other way round.
pub record IsSoFar (setting : Setting) (entries : List Entry) (number : ℕ) (at : ℕ) (held : Holdings) (told : List (List (List End))) : Type 0 where
  pub onward : (rest : List Entry) (ends : List (List (List End))) → Ran setting number held (drop number setting.script.phases) rest ends
      → RanAll setting (take at entries ++ rest) (told ++ ends)
  pub back : (rest : List Entry) (all : List (List (List End))) → (at ≡ 0) ⊎ BeginsAnew rest → RanAll setting (take at entries ++ rest) all
      → (ends : List (List (List End))) × Ran setting number held (drop number setting.script.phases) rest ends × (all ≡ told ++ ends)

-- up to the entry of this number the entries are those of a run, and with it of none
pub record IsRefusedAt (setting : Setting) (entries : List Entry) (number : ℕ) : Type 0 where
  pub from : 1 ≤ number
  pub to : number ≤ length entries
  pub before : (ends : List (List (List End))) × RanAll setting (take (number - 1) entries) ends
  pub here : (ends : List (List (List End))) → ¬ RanAll setting (take number entries) ends
