-- Phases whose workers were joined: what each worker made, and what it holds last.
use Rattle.std.specs.Prelude.{◌≡◌, ◌≢◌, ℕ, ◌+◌, List, [], ◌∷◌, map, All, Contains, Some}
use Rattle.std.specs.List.{AllByRecursion}
use Rattle.world_core.specs.declared.entry.Entry.{Entry}
use Rattle.script_core.specs.Workers.{workers_of}
use Rattle.script_workers.specs.declared.phase.Phase.{Phase}
use Rattle.script_workers.specs.declared.task.Task.{Task}
use Rattle.script_workers.specs.declared.worker.Worker.{Worker}
use Rattle.world_core.specs.Journals.{of_seat}
use Rattle.lifecycle_core.specs.Conducts.{Assigned, PhaseRun, TasksAt, who_of}
use Rattle.lifecycle_core.specs.Holdings.{Holding, Holdings, holding_of}
use Rattle.lifecycle_core.specs.Phases.{by_script}
use Rattle.lifecycle_core.specs.Setting.{Setting}
use Rattle.lifecycle_core.specs.Tasks.{End}
use Rattle.lifecycle_core.specs.Ways.{BeginsPhase}
use Rattle.script_running.specs.Cutting.{Passed}
use Rattle.script_running.specs.Workers.{OwnRun}

-- What a worker of a phase made: what was kept of its seat, the ends to which its tasks came, and what it holds last.
pub record Made : Type 0 where
  pub worker : Worker
  pub kept : ℕ × List Entry
  pub ends : List End
  pub last : Holding

abbrev pub workers_in : List Made → List Worker
workers_in made = map (λ (one : Made). one.worker) made

abbrev pub kept_in : List Made → List (ℕ × List Entry)
kept_in made = map (λ (one : Made). one.kept) made

abbrev pub ends_in : List Made → List (List End)
ends_in made = map (λ (one : Made). one.ends) made

-- What was kept of its seat are the runs of its tasks, which came to these ends.
pub record WasKept (setting : Setting) (tasks : List Task) (before : Holdings) (one : Made) : Type 0 where
  pub seat : one.kept.0 ≡ one.worker.seat
  pub own : List Assigned
  pub are : TasksAt tasks one.worker.tasks own
  pub run : OwnRun setting (who_of one.worker) (holding_of before one.worker.gateway) own one.kept.1 one.ends one.last

-- each worker's
abbrev pub WereKept : Setting → List Task → Holdings → List Made → Type 0
WereKept setting tasks before made = AllByRecursion (WasKept setting tasks before) made

-- gateways hold after a phase what their workers hold last, and those without a worker what they held
pub record AreLeft (before : Holdings) (made : List Made) (after : Holdings) : Type 0 where
  pub own : AllByRecursion (λ (one : Made). (gateway : ℕ) → one.worker.gateway ≡ Some gateway → after gateway ≡ one.last) made
  pub others : (gateway : ℕ) → All (λ (worker : Worker). worker.gateway ≢ Some gateway) (workers_in made) → after gateway ≡ before gateway

-- A phase was begun. Whatever entries its workers made, if those of each seat are what was kept of it, they are a run of the phase, which
-- came to these ends.
pub record WasBegun (setting : Setting) (number : ℕ) (phase : Phase) (before : Holdings) (one : Passed) (ends : List (List End)) (after : Holdings) : Type 0 where
  pub begins : BeginsPhase phase one.clock
  pub runs : (made : List Entry) → All (λ e. Contains (map (λ (kept : ℕ × List Entry). kept.0) one.kept) e.seat) made → AllByRecursion (λ (kept : ℕ × List Entry). kept.1 ≡ of_seat kept.0 made) one.kept
      → PhaseRun (by_script setting) phase.tasks (workers_of setting.script number) before made ends after

-- the phases from a number on, one after another
abbrev pub WereBegun : Setting → ℕ → Holdings → List Phase → List Passed → List (List (List End)) → Holdings → Type 0
WereBegun setting number before [] [] [] after = after ≡ before
WereBegun setting number before (phase ∷ phases) (one ∷ passed) (own ∷ ends) after =
    (next : Holdings) × WasBegun setting number phase before one own next × WereBegun setting (number + 1) next phases passed ends after
WereBegun setting number before phases passed ends after = ⊥
