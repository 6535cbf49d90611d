-- The workers of a phase, as they were sent and as they came back.
use Rattle.std.specs.Prelude.{◌≡◌, ℕ, ◌+◌, List, [], ◌∷◌, length, Err}
use Rattle.std.specs.List.{AllZip}
use mathlib.Core.List.{IsPrefix}
use Rattle.world_core.specs.Keeping.{IsFull}
use Rattle.world_core.specs.declared.entry.Entry.{Entry}
use Rattle.script_workers.specs.declared.task.Task.{Task}
use Rattle.script_workers.specs.declared.worker.Worker.{Worker}
use Rattle.lifecycle_core.specs.Conducts.{who_of}
use Rattle.lifecycle_core.specs.Holdings.{Holdings, holding_of}
use Rattle.lifecycle_core.specs.Setting.{Setting}
use Rattle.script_running.specs.Begun.{Made, WasKept}
use Rattle.script_running.specs.Lending.{Loan}
use Rattle.script_running.specs.Sights.{Sees}
use Rattle.script_running.specs.Tasks.{WhenDone}
use Rattle.script_running.specs.Workers.{AreParts, IsBrokenOff, OwnRun, Post}
use Rattle.script_running.specs.declared.came.Broken.TheVariants as broken
use Rattle.script_running.specs.declared.worker.WorkerEnd.{WorkerEnd}

-- a worker's job, by what is lent, with what its gateway sees by, by what that holds
pub record IsPostOf (loan : Loan) (number : ℕ) (before : Holdings) (worker : Worker) (post : Post) : Type 0 where
  pub loan_is : post.loan ≡ loan
  pub phase_is : post.phase ≡ number
  pub worker_is : post.worker ≡ worker
  pub sees : Sees (holding_of before worker.gateway) post.sight

-- the workers have the seats from one on
abbrev pub AreInRow : ℕ → List Worker → Type 0
AreInRow seat [] = Unit {0}
AreInRow seat (worker ∷ workers) = (worker.seat ≡ seat) × AreInRow (seat + 1) workers

-- A worker was joined. What was kept of its seat are its runs, and by them it came back so. Where the full journal broke it off, a
-- front that the root has seen is full.
pub record HasEnded (setting : Setting) (tasks : List Task) (before : Holdings) (front : List Entry) (one : Made) (end : WorkerEnd) : Type 0 where
  pub was : WasKept setting tasks before one
  pub parts : AreParts was.own one.ends end.parts.items
  pub sees : WhenDone end.came (Sees one.last end.sight)
  pub cut : IsBrokenOff (OwnRun setting (who_of one.worker) (holding_of before one.worker.gateway) was.own) (length was.own) one.worker.seat one.kept.1 one.ends end.came
  pub full : end.came ≡ Err broken.Full → (seen : List Entry) × IsPrefix seen front × IsFull seen

-- worker by worker
abbrev pub HaveEnded : Setting → List Task → Holdings → List Entry → List Made → List WorkerEnd → Type 0
HaveEnded setting tasks before front made others = AllZip (HasEnded setting tasks before front) made others
