-- Workers, each of whom does its own tasks of a phase, one after another.
use Rattle.std.specs.Prelude.{◌≡◌, ◌≢◌, ◌⊎◌, ℕ, List, [], ◌∷◌, ◌++◌, length, map, All, Contains, Option, Some, None, slice_get}
use Rattle.std.specs.List.{AllZip, zip}
use Rattle.world_core.specs.Journals.{of_seat}
use Rattle.world_core.specs.declared.entry.Entry.{Entry}
use Rattle.script_workers.specs.declared.task.Task.{Task}
use Rattle.script_workers.specs.declared.work.Work.{Work}
use Rattle.script_workers.specs.declared.worker.Worker.{Worker}
use Rattle.lifecycle_core.specs.Ways.{Way}

-- who does a task: its seat, and its gateway, if it is one's
pub record Who : Type 0 where
  pub seat : ℕ
  pub gateway : Option ℕ

-- How workers conduct themselves, where each holds such a state from one task to the next, and a task comes to such an end.
pub record Conduct (State End : Type 0) : Type 1 where
  -- who works in the phase of a number
  pub workers : ℕ → List Worker
  -- What a worker may do for the task at a place of its phase, where the phase has all these entries: from a state, its own
  -- entries, its end, which is none where it broke off, and the state after it.
  pub does : Who → ℕ → Work → List Entry → State → List Entry → Option End → State → Type 0
  -- what a worker holds before its first task, by what gateways hold before the phase
  pub opens : (ℕ → State) → Worker → State
  -- what a worker holds after its last task is what gateways hold after the phase
  pub leaves : Worker → State → (ℕ → State) → Type 0
  -- the entry may be made by somebody who is no worker of its phase
  pub bystands : Entry → Type 0

-- a task, and its place in its phase
pub record Assigned : Type 0 where
  pub place : ℕ
  pub task : Task

-- the tasks at these places of a phase
abbrev pub TasksAt : List Task → List ℕ → List Assigned → Type 0
TasksAt tasks [] found = found ≡ []
TasksAt tasks (place ∷ places) [] = ⊥
TasksAt tasks (place ∷ places) (own ∷ found) =
    ((own.place ≡ place) × (slice_get tasks place ≡ Some own.task)) × TasksAt tasks places found

-- A worker's entries are the runs of its tasks, one after another, in the order of their lines. These tasks have come to
-- these ends; the first one that has not may have broken off, and then nothing follows it. Last comes the state after them.
abbrev pub TasksRun : {State End : Type 0} → Conduct State End → Who → List Entry → State → List Assigned → List Entry → List End → State → Type 0
TasksRun conduct who all before [] entries ends last = (entries ≡ []) × (ends ≡ []) × (last ≡ before)
TasksRun {State} {End} conduct who all before (own ∷ tasks) entries ends last =
    ((made : List Entry) × (others : List Entry) × (end : End) × (later : List End) × (next : State)
    × (entries ≡ made ++ others)
    × conduct.does who own.place own.task.work all before made (Some end) next
    × (ends ≡ end ∷ later) × TasksRun conduct who all next tasks others later last)
    ⊎ (conduct.does who own.place own.task.work all before entries None last × (ends ≡ []))

abbrev pub who_of : Worker → Who
who_of worker = record { seat = worker.seat; gateway = worker.gateway }

-- The entries of a worker's seat are the runs of its tasks, which came to these ends.
pub record WorkerRun {State End : Type 0} (conduct : Conduct State End) (tasks : List Task) (before : ℕ → State)
    (entries : List Entry) (after : ℕ → State) (worker : Worker) (ends : List End) : Type 0 where
  pub own : List Assigned
  pub are : TasksAt tasks worker.tasks own
  pub last : State
  pub runs : TasksRun conduct (who_of worker) entries (conduct.opens before worker) own (of_seat worker.seat entries) ends last
  pub leaves : conduct.leaves worker last after

-- A phase's entries are its workers', and those that others may make. The ends are listed by worker and then by task.
pub record PhaseRun {State End : Type 0} (conduct : Conduct State End) (tasks : List Task) (workers : List Worker)
    (before : ℕ → State) (entries : List Entry) (ends : List (List End)) (after : ℕ → State) : Type 0 where
  pub seats : All (λ e. Contains (map (λ (w : Worker). w.seat) workers) e.seat ⊎ conduct.bystands e) entries
  pub runs : AllZip (WorkerRun conduct tasks before entries after) workers ends
  -- a gateway that has no worker holds what it held
  pub kept : (gateway : ℕ) → All (λ (w : Worker). w.gateway ≢ Some gateway) workers
      → after gateway ≡ before gateway

-- each task of each worker has come to its end
abbrev pub AreDone : {End : Type 0} → List Worker → List (List End) → Type 0
AreDone workers ends = map (λ (w : Worker). length w.tasks) workers ≡ map length ends

-- the worker of a gateway, or of an upload where none is named, came to this end in the task at a place of its phase
pub record CameTo {End : Type 0} (workers : List Worker) (ends : List (List End)) (gateway : Option ℕ) (place : ℕ)
    (end : End) : Type 0 where
  pub worker : Worker
  pub own : List End
  pub among : Contains (zip workers ends) (worker, own)
  pub is : worker.gateway ≡ gateway
  pub came : Contains (zip worker.tasks own) (place, end)

-- The workers do their tasks beside one another, in whatever order their operations fall.
abbrev pub working : {State End : Type 0} → Conduct State End → Way State (List (List End))
working conduct = record {
  works = λ number phase. PhaseRun conduct phase.tasks (conduct.workers number);
  is_done = λ number phase. AreDone (conduct.workers number);
}
