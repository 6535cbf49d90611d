-- The lawful journals of a script: which runs stand in them, and in which order.
use Rattle.std.specs.Prelude.{◌≡◌, ℕ, List, Some}
use Rattle.world_core.specs.Worlds.{IsJournal}
use Rattle.world_core.specs.declared.entry.Entry.{Entry}
use Rattle.script_core.specs.Workers.{workers_of}
use Rattle.lifecycle_core.specs.Conducts.{Conduct, working}
use Rattle.lifecycle_core.specs.Holdings.{Holding, holding_of, none_held}
use Rattle.lifecycle_core.specs.Setting.{Setting}
use Rattle.lifecycle_core.specs.Tasks.{End, TaskRun}
use Rattle.lifecycle_core.specs.Ways.{Way, AreFinished, AreInTurn, PhasesRun}

-- The script's workers at their tasks. A gateway has one worker in a phase, which hands on what it holds; nobody else acts.
abbrev pub by_script : Setting → Conduct Holding End
by_script setting = record {
  workers = workers_of setting.script;
  does = λ who place work all. TaskRun setting who place work;
  opens = λ before worker. holding_of before worker.gateway;
  leaves = λ worker last after. (gateway : ℕ) → worker.gateway ≡ Some gateway → after gateway ≡ last;
  bystands = λ e. ⊥;
}

abbrev pub by_workers : Setting → Way Holding (List (List End))
by_workers setting = working (by_script setting)

-- A journal of a script: its entries are the runs of the phases that were begun, with these ends.
pub record IsRunOf (setting : Setting) (journal : List Entry)
    (ends : List (List (List End))) : Type 0 where
  pub kept : IsJournal setting.script.rules.tick.ms journal
  pub phases : PhasesRun (by_workers setting) 0 none_held setting.script.phases journal ends

-- a lawful journal of the script
abbrev pub IsLawfulJournal : Setting → List Entry → Type 0
IsLawfulJournal setting journal = (ends : List (List (List End))) × IsRunOf setting journal ends

-- each phase behind which another one was begun had come to all its ends
abbrev pub IsInTurn : Setting → List (List (List End)) → Type 0
IsInTurn setting ends = AreInTurn (by_workers setting) 0 setting.script.phases ends

-- every phase was begun, and has come to all its ends
abbrev pub IsFinished : Setting → List (List (List End)) → Type 0
IsFinished setting ends = AreFinished (by_workers setting) 0 setting.script.phases ends
