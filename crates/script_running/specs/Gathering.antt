-- What a phase comes to, once the ends of its workers are laid together.
use Rattle.std.specs.Prelude.{◌≡◌, ◌≢◌, ◌⊎◌, ℕ, ◌+◌, ◌<◌, ◌^◌, ◌==◌, List, [], ◌∷◌, length, All, Contains, Option, Some, None, Result, Ok, Err, if◌then◌else◌, slice_get}
use Rattle.std.specs.List.{flat_map, zip}
use Rattle.std.specs.List.Sorted.{IsNonDecreasingBy, IsPermutation}
use Rattle.world_core.specs.declared.entry.Entry.{Entry}
use Rattle.script_core.specs.Lawful.{IsLawfulScript}
use Rattle.script_core.specs.Workers.{workers_of}
use Rattle.script_core.specs.declared.script.Script.{Script}
use Rattle.script_workers.specs.Hands.{gateway_count}
use Rattle.script_workers.specs.declared.phase.Phase.{Phase}
use Rattle.script_workers.specs.declared.task.Task.{Task}
use Rattle.script_workers.specs.declared.work.Work.{Work}
use Rattle.script_workers.specs.declared.worker.Worker.{Worker}
use Rattle.lifecycle_core.specs.Conducts.{AreDone}
use Rattle.lifecycle_core.specs.Holdings.{Holdings}
use Rattle.lifecycle_core.specs.Setting.{Setting}
use Rattle.script_running.specs.Begun.{AreLeft, Made, ends_in, workers_in}
use Rattle.script_running.specs.Beside.{AreSeen}
use Rattle.script_running.specs.Ended.{HaveEnded}
use Rattle.script_running.specs.Going.{Met}
use Rattle.script_running.specs.Outcomes.{AreAllParts, IsOutcomeOf, Outcome, Part, TasksCame}
use Rattle.script_running.specs.Reporting.{AddsTo}
use Rattle.script_running.specs.Sights.{Sees, no_sight}
use Rattle.script_running.specs.declared.came.Broken.{Broken}
use Rattle.script_running.specs.declared.came.Broken.TheVariants as broken
use Rattle.script_running.specs.declared.gathering.CameBack.{CameBack}
use Rattle.script_running.specs.declared.gathering.Staffed.{Staffed}
use Rattle.script_running.specs.declared.gathering.TaskParts.{TaskParts}
use Rattle.script_running.specs.declared.progress.Progress.{Progress}
use Rattle.script_running.specs.declared.sight.Sight.{Sight}
use Rattle.script_running.specs.declared.worker.WorkerEnd.{WorkerEnd}

-- gateways without a worker in the phase see by what they hold
abbrev pub AreSeenBeside : Holdings → List Worker → List Sight → Type 0
AreSeenBeside held workers sights = (place : ℕ) (sight : Sight) → slice_get sights place ≡ Some sight → All (λ (w : Worker). w.gateway ≢ Some place) workers → Sees (held place) sight

-- A phase whose workers were joined: what each of them made.
pub record Joined : Type 0 where
  pub number : ℕ
  pub phase : Phase
  -- what gateways hold before the phase, and after it
  pub before : Holdings
  pub after : Holdings
  -- what the root has seen of the journal
  pub front : List Entry
  pub made : List Made

-- These are the workers of the phase of the setting, who came back so. Gateways without a worker in it see by what they hold.
pub record AreJoined (setting : Setting) (staffed : Staffed) (others : List WorkerEnd) (sights : List Sight) (one : Joined) : Type 0 where
  pub lawful : IsLawfulScript setting.script
  pub script_is : staffed.script.now ≡ setting.script
  pub at : slice_get setting.script.phases one.number ≡ Some one.phase
  pub tasks : staffed.tasks.now ≡ one.phase.tasks
  pub workers : workers_in one.made ≡ staffed.workers.now
  pub staff : staffed.workers.now ≡ workers_of setting.script one.number
  pub counted : length sights ≡ gateway_count setting.script.gateways
  pub have : HaveEnded setting one.phase.tasks one.before one.front one.made others
  pub left : AreLeft one.before one.made one.after
  pub beside : AreSeenBeside one.before staffed.workers.now sights

-- All workers of the phase came to all their ends: gateways see what they hold after it, and the report tells of its tasks too.
pub record HasGathered {P : Type 0} (tells : P → Script → List Task → List Outcome → Type 0) (setting : Setting) (one : Joined) (old new : Progress P) : Type 0 where
  pub done : AreDone (workers_of setting.script one.number) (ends_in one.made)
  pub seen : AreSeen one.after new.sights.items
  pub own : List Outcome
  pub came : TasksCame setting.script (workers_of setting.script one.number) (ends_in one.made) 0 one.phase.tasks own
  pub told : AddsTo tells setting.script one.phase.tasks own old.report new.report

-- ---- before the phase

-- no two workers are of one gateway
abbrev pub HaveOwnGateways : List Worker → Type 0
HaveOwnGateways [] = Unit {0}
HaveOwnGateways (w ∷ workers) = ((gateway : ℕ) → w.gateway ≡ Some gateway → All (λ (x : Worker). x.gateway ≢ Some gateway) workers) × HaveOwnGateways workers

-- the worker's gateway is one of so many
abbrev pub HasPlace : ℕ → Worker → Type 0
HasPlace count w = (gateway : ℕ) → w.gateway ≡ Some gateway → gateway < count

-- what a gateway has seen was taken from its place, and nothing else
pub record IsTaken (gateway : Option ℕ) (own : Sight) (old new : List Sight) : Type 0 where
  pub each : length new ≡ length old
  pub named : (place : ℕ) → gateway ≡ Some place → slice_get old place ≡ Some own
  pub none : gateway ≡ None → own ≡ no_sight
  pub left : (place : ℕ) (sight : Sight) → slice_get new place ≡ Some sight → gateway ≢ Some place → slice_get old place ≡ Some sight

-- ---- behind it

-- what broke workers off, one of whom met the full journal just where that is said
abbrev pub HaveCome : List WorkerEnd → Result (Unit {0}) Broken → Type 0
HaveCome ends (Ok done) = All (λ (end : WorkerEnd). end.came ≡ Ok tt) ends
HaveCome ends (Err why) = Met why ends

-- which of two reasons is told
pub record IsWorse (one other both : Result (Unit {0}) Broken) : Type 0 where
  pub none : both ≡ Ok tt → (one ≡ Ok tt) × (other ≡ Ok tt)
  pub full : both ≡ Err broken.Full → (one ≡ Err broken.Full) ⊎ (other ≡ Err broken.Full)
  pub first : one ≡ Err broken.Full → both ≡ Err broken.Full
  pub second : other ≡ Err broken.Full → both ≡ Err broken.Full

-- a worker, and what it came back with
abbrev pub back_of : CameBack → Worker × WorkerEnd
back_of back = (back.worker.now, back.end)

abbrev pub turn_by : Option ℕ → ℕ
turn_by None = 0
turn_by (Some gateway) = gateway + 1

-- those of no gateway come first, then those of gateways in the order of these
abbrev pub turn_of : Worker × WorkerEnd → ℕ
turn_of back = turn_by back.0.gateway

-- Workers with what they came back with, in the order of their turns.
pub record AreInTurn (workers : List Worker) (ends : List WorkerEnd) (backs : List (Worker × WorkerEnd)) : Type 0 where
  pub same : IsPermutation (zip workers ends) backs
  pub ascend : IsNonDecreasingBy turn_of backs

-- the parts that are paired with a place
abbrev pub paired_with : ℕ → List (ℕ × Part) → List Part
paired_with place [] = []
paired_with place (one ∷ pairs) = if one.0 == place then one.1 ∷ paired_with place pairs else paired_with place pairs

-- a worker's parts of the task at a place
abbrev pub own_parts : ℕ → Worker × WorkerEnd → List Part
own_parts place back = paired_with place (zip back.0.tasks back.1.parts.items)

-- the parts of the task at a place, by these workers in their order
abbrev pub parts_of : ℕ → List (Worker × WorkerEnd) → List Part
parts_of place backs = flat_map (own_parts place) backs

abbrev pub in_them : Option TaskParts → List Part
in_them None = []
in_them (Some own) = own.parts.items

-- the parts that lie at a place
abbrev pub parts_at : List TaskParts → ℕ → List Part
parts_at lists place = in_them (slice_get lists place)

-- a gateway, if one is named, sees by this, and the others by what they did
abbrev pub IsSeen : Option ℕ → Sight → List Sight → List Sight → Type 0
IsSeen gateway own old new = (place : ℕ) (sight : Sight) → slice_get new place ≡ Some sight
    → ((gateway ≡ Some place) × (own ≡ sight)) ⊎ ((slice_get old place ≡ Some sight) × (gateway ≢ Some place))

-- Workers were taken in. A gateway sees by that with which a worker of its own came back, or as before, if it has none; and their parts
-- of each task lie at its place, in their order.
pub record AreTakenIn (backs : List (Worker × WorkerEnd)) (sights seen : List Sight) (lists : List TaskParts) : Type 0 where
  pub sights_are : (place : ℕ) (sight : Sight) → slice_get seen place ≡ Some sight
      → ((back : Worker × WorkerEnd) × Contains backs back × (back.0.gateway ≡ Some place) × (back.1.sight ≡ sight))
      ⊎ ((slice_get sights place ≡ Some sight) × All (λ (back : Worker × WorkerEnd). back.0.gateway ≢ Some place) backs)
  pub parts_are : (place : ℕ) → parts_at lists place ≡ parts_of place backs

-- A task's outcome, where these are the parts of all who did it.
abbrev pub IsToldBy : Work → List Part → Outcome → Type 0
IsToldBy work parts o = AreAllParts work parts → length parts < 2 ^ 32 → IsOutcomeOf work parts o

-- the outcomes of tasks from a place on, by the parts of each
abbrev pub AreTold : (ℕ → List Part) → ℕ → List Task → List Outcome → Type 0
AreTold parts place [] outcomes = outcomes ≡ []
AreTold parts place (task ∷ tasks) [] = ⊥
AreTold parts place (task ∷ tasks) (o ∷ outcomes) = IsToldBy task.work (parts place) o × AreTold parts (place + 1) tasks outcomes
