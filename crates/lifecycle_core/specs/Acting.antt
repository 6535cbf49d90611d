-- Journals of which only the uploads, compactions and cleanings are known: whoever else acts, and in whatever order, does nothing but
-- read.
use Rattle.std.specs.Prelude.{◌≡◌, ◌≢◌, ◌<◌, ℕ, List, map, filter, All, Contains, Option, Some, None, option_map, slice_get, is_none}
use Rattle.world_core.specs.Journals.{of_seat}
use Rattle.world_core.specs.Worlds.{IsJournal}
use Rattle.world_core.specs.declared.entry.Entry.{Entry}
use Rattle.script_core.specs.Workers.{workers_of}
use Rattle.script_workers.specs.declared.phase.Phase.{Phase}
use Rattle.script_workers.specs.declared.work.Work.{Work}
use Rattle.script_workers.specs.declared.worker.Worker.{Worker}
pub use Rattle.lifecycle_core.specs.Breaches.{IsReading}
use Rattle.lifecycle_core.specs.Breaches.{IsCompactorSeat}
use Rattle.lifecycle_core.specs.Conducts.{Conduct, Who, WorkerRun, working}
use Rattle.lifecycle_core.specs.Holdings.{Holding, none_held, nothing_held}
use Rattle.lifecycle_core.specs.Setting.{Setting}
use Rattle.lifecycle_core.specs.Tasks.{End, TaskRun}
use Rattle.lifecycle_core.specs.Ways.{PhasesRun}

-- the workers of a phase's uploads, compactions and cleanings, each at the seat to which the numbering takes its own
abbrev pub actors : Setting → (ℕ → ℕ) → ℕ → List Worker
actors setting seats number =
    map (λ (worker : Worker). record { seat = seats worker.seat; gateway = worker.gateway; tasks = worker.tasks })
    (filter (λ (worker : Worker). is_none worker.gateway) (workers_of setting.script number))

-- by the script's own numbering one of these workers has this seat
abbrev pub IsActorSeat : Setting → ℕ → Type 0
IsActorSeat setting seat =
    (number : ℕ) × (worker : Worker) × Contains (workers_of setting.script number) worker
    × (worker.gateway ≡ None) × (worker.seat ≡ seat)

-- The numbering takes each of them to a seat of its own, which is not the clock's.
pub record IsNumbering (setting : Setting) (seats : ℕ → ℕ) : Type 0 where
  pub above : (seat : ℕ) → IsActorSeat setting seat → 0 < seats seat
  pub apart : (one other : ℕ) → IsActorSeat setting one → IsActorSeat setting other → seats one ≡ seats other → one ≡ other

-- It is a read, at a seat that is neither the clock's nor one of theirs.
abbrev pub ReadsApart : Setting → (ℕ → ℕ) → Entry → Type 0
ReadsApart setting seats e =
    (e.seat ≢ 0) × IsReading e.op
    × ((number : ℕ) → ¬ Contains (map (λ (worker : Worker). worker.seat) (actors setting seats number)) e.seat)

-- These workers do their tasks. Everybody else reads.
abbrev pub acting : Setting → (ℕ → ℕ) → Conduct Holding End
acting setting seats = record {
  workers = actors setting seats;
  does = λ who place work all. TaskRun setting who place work;
  opens = λ before worker. nothing_held;
  leaves = λ worker last after. Unit {0};
  bystands = ReadsApart setting seats;
}

-- An acting journal of a script: the phases were begun one after another, and in each of them the uploads, compactions and cleanings
-- were done, under some numbering of their seats.
pub record IsActing (setting : Setting) (journal : List Entry) : Type 0 where
  pub seats : ℕ → ℕ
  pub numbered : IsNumbering setting seats
  pub ends : List (List (List End))
  pub kept : IsJournal setting.script.rules.tick.ms journal
  pub phases : PhasesRun (working (acting setting seats)) 0 none_held setting.script.phases journal ends

-- under the numbering, a worker whose task is a compaction has this seat
abbrev pub IsCompactorAt : Setting → (ℕ → ℕ) → ℕ → Type 0
IsCompactorAt setting seats seat = (own : ℕ) × IsCompactorSeat setting own × (seats own ≡ seat)

-- ---- other ways to work on a script

-- Where people conduct themselves so, the workers without a gateway are those of the script's uploads, compactions and cleanings, and
-- do these, whatever they hold meanwhile. All others do nothing but read.
pub record HasActors {State Own : Type 0} (setting : Setting) (seats : ℕ → ℕ) (conduct : Conduct State Own) : Type 0 where
  pub actors_are : (number : ℕ)
      → filter (λ (worker : Worker). is_none worker.gateway) (conduct.workers number) ≡ actors setting seats number
  -- as what an end of theirs counts
  pub end_as : Own → End
  pub does : (who : Who) (place : ℕ) (work : Work) (all : List Entry) (before : State) (made : List Entry) (end : Option Own) (after : State)
      → who.gateway ≡ None → conduct.does who place work all before made end after
      → (held : Holding) → (left : Holding) × TaskRun setting who place work held made (option_map end_as end) left
  pub reads : (number : ℕ) (phase : Phase) (worker : Worker) (before after : ℕ → State) (made : List Entry) (ends : List Own)
      → slice_get setting.script.phases number ≡ Some phase → Contains (conduct.workers number) worker → worker.gateway ≢ None
      → WorkerRun conduct phase.tasks before made after worker ends → All (ReadsApart setting seats) (of_seat worker.seat made)
  pub bystanders : (e : Entry) → conduct.bystands e → ReadsApart setting seats e
