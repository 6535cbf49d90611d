-- A worker of a phase: its post, and what it leaves.
use Rattle.std.specs.Prelude.{◌≡◌, ℕ, ◌<◌, List, [], ◌∷◌, ◌++◌, length, All, Option, Some, Result, Ok, Err, IfSome, slice_get}
use Rattle.world_core.specs.Keeping.{IsFull}
use Rattle.world_core.specs.declared.entry.Entry.{Entry}
use Rattle.script_core.specs.Lawful.{IsLawfulScript}
use Rattle.script_core.specs.declared.script.Script.{Script}
use Rattle.script_workers.specs.declared.phase.Phase.{Phase}
use Rattle.script_workers.specs.declared.task.Task.{Task}
use Rattle.script_workers.specs.declared.worker.Worker.{Worker}
use Rattle.lifecycle_core.specs.Conducts.{Assigned, TasksAt, TasksRun, Who, who_of}
use Rattle.lifecycle_core.specs.Holdings.{Holding}
use Rattle.lifecycle_core.specs.Phases.{by_script}
use Rattle.lifecycle_core.specs.Setting.{Setting}
use Rattle.lifecycle_core.specs.Tasks.{End}
use Rattle.lifecycle_core.specs.Ways.{IsDueAfter}
use Rattle.script_running.specs.Outcomes.{IsPart, Part}
use Rattle.script_running.specs.Lending.{Loan, setting_in}
use Rattle.script_running.specs.Sights.{Sees}
use Rattle.script_running.specs.Tasks.{WhenDone}
use Rattle.script_running.specs.declared.came.Broken.{Broken}
use Rattle.script_running.specs.declared.came.Broken.TheVariants as broken
use Rattle.script_running.specs.declared.sight.Sight.{Sight}
use Rattle.script_running.specs.declared.worker.WorkerEnd.{WorkerEnd}

-- What a worker is sent to do: by what it is lent, in the phase at a place, with what its gateway sees by.
pub record Post : Type 0 where
  pub loan : Loan
  pub phase : ℕ
  pub worker : Worker
  pub sight : Sight

-- The script is lawful, and its phase at this place has these tasks, some at the worker's places.
pub record IsAtWork (script : Script) (number : ℕ) (worker : Worker) (tasks : List Task) : Type 0 where
  pub lawful : IsLawfulScript script
  pub phase : Phase
  pub at : slice_get script.phases number ≡ Some phase
  pub own : tasks ≡ phase.tasks
  pub within : All (λ place. place < length tasks) worker.tasks

-- A worker's parts of its first tasks, by the ends to which they came.
abbrev pub AreParts : List Assigned → List End → List Part → Type 0
AreParts own [] parts = parts ≡ []
AreParts [] (end ∷ ends) parts = ⊥
AreParts (task ∷ own) (end ∷ ends) [] = ⊥
AreParts (task ∷ own) (end ∷ ends) (one ∷ parts) =
    IsPart task.task.work end one × AreParts own ends parts

-- a worker's run of its tasks, whatever the others of its phase do
abbrev pub OwnRun : Setting → Who → Holding → List Assigned → List Entry → List End → Holding → Type 0
OwnRun setting who before own made ends last = (all : List Entry) → TasksRun (by_script setting) who all before own made ends last

-- All of so many tasks have come to their ends, or an operation is due in the first one that has not, if the full journal broke it off.
abbrev pub IsBrokenOff : (List Entry → List End → Holding → Type 0) → ℕ → ℕ → List Entry → List End → Result (Unit {0}) Broken → Type 0
IsBrokenOff is_run count seat made ends (Ok done) = length ends ≡ count
IsBrokenOff is_run count seat made ends (Err broken.Full) =
    (length ends < count) × IsDueAfter (λ entries (run : List End × Holding). is_run entries run.0 run.1) seat made
IsBrokenOff is_run count seat made ends (Err broken.NoMemory) = Unit {0}

-- A worker did tasks, one after another, with entries of its seat: the tasks that stand at its places, by runs from what it held. Its
-- parts are those of the tasks that came to their ends, and if they all did, it sees by what it holds last.
pub record HasWorked (at : List Assigned → Type 0) (runs : List Assigned → List Entry → List End → Holding → Type 0) (seat : ℕ) (old new : List Entry) (end : WorkerEnd) : Type 0 where
  pub made : List Entry
  pub entries : new ≡ old ++ made
  pub seats : All (λ e. e.seat ≡ seat) made
  pub own : List Assigned
  pub are : at own
  pub ends : List End
  pub last : Holding
  pub run : runs own made ends last
  pub parts : AreParts own ends end.parts.items
  pub sees : WhenDone end.came (Sees last end.sight)
  pub broken : IsBrokenOff (runs own) (length own) seat made ends end.came

-- What the job of a worker may do, by the script of which it is lent. Where the full journal broke it off, it has seen that the
-- journal is full.
pub record MayWork (post : Post) (seat : ℕ) (made : List Entry) (front : Option (List Entry)) (end : WorkerEnd) : Type 0 where
  pub worked : (phase : Phase) (held : Holding) → slice_get post.loan.script.phases post.phase ≡ Some phase → Sees held post.sight
      → HasWorked (TasksAt phase.tasks post.worker.tasks) (OwnRun (setting_in post.loan) (who_of post.worker) held) seat [] made end
  pub full : end.came ≡ Err broken.Full → IfSome front IsFull
