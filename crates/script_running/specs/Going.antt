-- How far a run beside has come, by what its root knows: between two phases, and where it broke off.
use Rattle.std.specs.Prelude.{◌≡◌, ◌≢◌, ◌⊎◌, ℕ, List, [], ◌∷◌, ◌++◌, length, All, Contains, Result, Ok, Err}
use mathlib.Core.List.{IsPrefix}
use Rattle.world_core.specs.Keeping.{IsFull}
use Rattle.world_core.specs.declared.entry.Entry.{Entry}
use Rattle.world_core.specs.declared.act.Acted.TheVariants as answer
use Rattle.world_core.specs.declared.op.Op.TheVariants.{Clock}
use Rattle.world_core.specs.declared.seen.Seen.{Seen}
use Rattle.world_turn.specs.Turns.{Acts}
use Rattle.world_turn.specs.declared.view.View.{View as Known}
use Rattle.script_core.specs.Workers.{workers_of}
use Rattle.script_core.specs.declared.script.Script.{Script}
use Rattle.script_workers.specs.declared.phase.Phase.{Phase}
use Rattle.script_workers.specs.declared.task.Task.{Task}
use Rattle.lifecycle_core.specs.Holdings.{Holdings, none_held}
use Rattle.lifecycle_core.specs.Phases.{by_workers}
use Rattle.lifecycle_core.specs.Setting.{Setting}
use Rattle.lifecycle_core.specs.Tasks.{End}
use Rattle.lifecycle_core.specs.Ways.{AreFinished, BeginsPhase}
use Rattle.script_running.specs.Begun.{Made, WereBegun, kept_in, workers_in}
use Rattle.script_running.specs.Beside.{AreSeen}
use Rattle.script_running.specs.Cutting.{KnowsPhases, Passed}
use Rattle.script_running.specs.Ended.{AreInRow, HaveEnded}
use Rattle.script_running.specs.Outcomes.{Outcome, PhasesCame}
use Rattle.script_running.specs.Reporting.{HasToldFirst, tasks_in}
use Rattle.script_running.specs.declared.came.Broken.{Broken}
use Rattle.script_running.specs.declared.came.Broken.TheVariants as broken
use Rattle.script_running.specs.declared.progress.Progress.{Progress}
use Rattle.script_running.specs.declared.sight.Sight.{Sight}
use Rattle.script_running.specs.declared.worker.WorkerEnd.{WorkerEnd}

-- the clock was set to a phase's moment, or why it was not
abbrev pub IsClockSet : Phase → Known → Known → Result (Unit {0}) Broken → Type 0
IsClockSet phase before after (Ok done) = (seen : Seen) × Acts before (Clock phase.moment) (answer.Done seen) after
IsClockSet phase before after (Err broken.Full) = Acts before (Clock phase.moment) answer.Full after
IsClockSet phase before after (Err broken.NoMemory) = Acts before (Clock phase.moment) answer.NoMemory after

-- These phases are finished. Gateways hold this now.
pub record HasFinished (setting : Setting) (done : List Phase) (passed : List Passed) (held : Holdings) : Type 0 where
  pub told : List (List (List End))
  pub begun : WereBegun setting 0 none_held done passed told held
  pub finished : AreFinished (by_workers setting) 0 done told

-- Between two phases: the root knows the finished ones, and no other was begun. These are their outcomes, and each gateway
-- sees by what it holds.
pub record HasGone (setting : Setting) (root : Known) (done : List Phase) (sights : List Sight) (outcomes : List Outcome) : Type 0 where
  pub passed : List Passed
  pub held : Holdings
  pub so_far : HasFinished setting done passed held
  pub knows : KnowsPhases root passed
  pub came : PhasesCame setting.script 0 done so_far.told outcomes
  pub each : length sights ≡ length setting.script.gateways
  pub seen : AreSeen held sights

-- a front that the root has seen is full
abbrev pub HasSeenFull : Known → Type 0
HasSeenFull root = (seen : List Entry) × IsPrefix seen root.front × IsFull seen

-- what holds where the full journal broke a run off
abbrev pub IfFull : Broken → Type 0 → Type 0
IfFull broken.Full P = P
IfFull broken.NoMemory P = Unit {0}

-- Workers of a phase that was broken off came back so: one of them met the full journal, or, where memory was wanting, none of them did.
abbrev pub Met : Broken → List WorkerEnd → Type 0
Met broken.Full ends = (end : WorkerEnd) × Contains ends end × (end.came ≡ Err broken.Full)
Met broken.NoMemory ends = All (λ (end : WorkerEnd). end.came ≢ Err broken.Full) ends

-- The phase behind the finished ones was begun. A worker met the full journal just where that broke the phase off.
pub record HasBrokenOff (setting : Setting) (root : Known) (done : List Phase) (passed : List Passed) (held : Holdings) (phase : Phase) (why : Broken) : Type 0 where
  pub one : Passed
  pub begins : BeginsPhase phase one.clock
  pub others : List WorkerEnd
  pub made : List Made
  pub workers : workers_in made ≡ workers_of setting.script (length done)
  pub kept : kept_in made ≡ one.kept
  pub have : HaveEnded setting phase.tasks held root.front made others
  pub seat : ℕ
  pub row : AreInRow seat (workers_in made)
  pub knows : KnowsPhases root (passed ++ one ∷ [])
  pub met : Met why others

-- The phase behind the finished ones was begun, and none of its workers.
pub record HasIdled (setting : Setting) (root : Known) (passed : List Passed) (phase : Phase) : Type 0 where
  pub one : Passed
  pub begins : BeginsPhase phase one.clock
  pub none : one.kept ≡ []
  pub knows : KnowsPhases root (passed ++ one ∷ [])

-- A run that broke off behind some finished phases, whose outcomes these are: at the next one's clock, or within it.
pub record HasStopped (setting : Setting) (root : Known) (outcomes : List Outcome) (why : Broken) : Type 0 where
  pub done : List Phase
  pub phase : Phase
  pub left : List Phase
  pub phases : setting.script.phases ≡ done ++ phase ∷ left
  pub passed : List Passed
  pub held : Holdings
  pub so_far : HasFinished setting done passed held
  pub came : PhasesCame setting.script 0 done so_far.told outcomes
  pub stands : (KnowsPhases root passed × IfFull why (HasSeenFull root))
      ⊎ (HasBrokenOff setting root done passed held phase why ⊎ ((why ≡ broken.NoMemory) × HasIdled setting root passed phase))

-- Between two phases, where the report tells of the finished ones.
pub record HasReached {P : Type 0} (tells : P → Script → List Task → List Outcome → Type 0) (setting : Setting) (root : Known) (done : List Phase) (progress : Progress P) : Type 0 where
  pub outcomes : List Outcome
  pub gone : HasGone setting root done progress.sights.items outcomes
  pub told : tells progress.report setting.script (tasks_in done) outcomes

-- A run that broke off, whose report tells of the finished phases. Where memory was wanting, some report did.
pub record HasBroken {P : Type 0} (tells : P → Script → List Task → List Outcome → Type 0) (setting : Setting) (root : Known) (report : P) (why : Broken) : Type 0 where
  pub outcomes : List Outcome
  pub stopped : HasStopped setting root outcomes why
  pub told : HasToldFirst tells setting.script report outcomes (Err why)

-- what a run of these phases comes to, by what broke it off
abbrev pub HasCome : {P : Type 0} → (P → Script → List Task → List Outcome → Type 0) → Setting → Known → List Phase → Progress P → Result (Unit {0}) Broken → Type 0
HasCome tells setting root done progress (Ok none) = HasReached tells setting root done progress
HasCome tells setting root done progress (Err why) = HasBroken tells setting root progress.report why
