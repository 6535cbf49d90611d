-- What is looked up by seats: whose gateway's a seat is, whether a compaction has it, and which entries of it are the first and the
-- last one.
use Rattle.std.specs.Prelude.{◌≡◌, ◌↔◌, ◌<◌, ◌&&◌, ℕ, Bool, true, false, List, [], ◌∷◌, Contains, length, Option, Some, None, option_map, slice_get, if◌then◌else◌}
use Rattle.std.specs.List.{last_or, list_any}
use Rattle.std.specs.Option.{option_map_or}
use Rattle.std.specs.BTreeMap.{BTreeMap, get}
use Rattle.std.specs.BTreeSet.{BTreeSet, contains}
use Rattle.std.specs.Ordering.{is_eq, nat_cmp}
use Rattle.script_core.specs.declared.script.Script.{Script}
use Rattle.script_core.specs.Workers.{workers_of}
use Rattle.script_workers.specs.Works.{is_compaction}
use Rattle.script_workers.specs.declared.task.Task.{Task}
use Rattle.script_workers.specs.declared.worker.Worker.{Worker}
use Rattle.world_core.specs.declared.entry.Entry.{Entry}
use Rattle.world_core.specs.Journals.{of_seat}
use Rattle.breach_finding.specs.declared.tables.Tables.{Tables}

-- numbers by numbers
abbrev pub Numbers : Type 0
Numbers = BTreeMap ℕ ℕ

-- the gateway of a worker where the worker sits there, and else what was found before
abbrev pub gateway_or : Option ℕ → Bool → Option ℕ → Option ℕ
gateway_or None sits was = was
gateway_or (Some gateway) sits was = if sits then Some gateway else was

-- the gateway of the last of these workers that sits there
abbrev pub seated : List Worker → ℕ → Option ℕ → Option ℕ
seated [] seat was = was
seated (worker ∷ workers) seat was = seated workers seat (gateway_or worker.gateway (is_eq (nat_cmp worker.seat seat)) was)

-- the seats of these workers were added
abbrev pub AreAdded : List Worker → Numbers → Numbers → Type 0
AreAdded workers old new = (seat : ℕ) → get nat_cmp new seat ≡ seated workers seat (get nat_cmp old seat)

-- a worker of the gateway in a phase before this one has the seat
abbrev pub SitsBefore : Script → ℕ → ℕ → ℕ → Type 0
SitsBefore script phases gateway seat =
    (number : ℕ) × (number < phases) × (worker : Worker) × Contains (workers_of script number) worker
    × (worker.gateway ≡ Some gateway) × (worker.seat ≡ seat)

-- the gateways of the seats of these phases
pub record AreSeatsOf (script : Script) (phases : ℕ) (seats : Numbers) : Type 0 where
  pub found : (seat gateway : ℕ) → get nat_cmp seats seat ≡ Some gateway → SitsBefore script phases gateway seat
  pub all : (seat gateway : ℕ) → SitsBefore script phases gateway seat → get nat_cmp seats seat ≡ Some gateway

-- ---- compactions

-- the tasks of the phase at a place
abbrev pub tasks_at : Script → ℕ → List Task
tasks_at script place = option_map_or (λ phase. phase.tasks) (slice_get script.phases place) []

-- whether the task at a place is a compaction
abbrev pub compacts_at : List Task → ℕ → Bool
compacts_at tasks place = option_map_or (λ task. is_compaction task.work) (slice_get tasks place) false

-- whether one of these workers sits there, and has a compaction among its tasks
abbrev pub compacts_among : List Task → ℕ → List Worker → Bool
compacts_among tasks seat workers =
    list_any (λ worker. is_eq (nat_cmp worker.seat seat) && list_any (compacts_at tasks) worker.tasks) workers

-- a worker of a phase before this one has the seat, and a compaction among its tasks
abbrev pub CompactsBefore : Script → ℕ → ℕ → Type 0
CompactsBefore script phases seat =
    (number : ℕ) × (number < phases) × (compacts_among (tasks_at script number) seat (workers_of script number) ≡ true)

-- the seats of the workers of these phases that compact
abbrev pub AreCompactors : Script → ℕ → BTreeSet ℕ → Type 0
AreCompactors script phases seats = (seat : ℕ) → (contains nat_cmp seats seat ≡ true) ↔ CompactsBefore script phases seat

-- ---- all tables

-- what is looked up of a journal of the script
pub record AreTablesOf (script : Script) (journal : List Entry) (tables : Tables) : Type 0 where
  pub gateways : AreSeatsOf script (length script.phases) tables.gateways
  pub compactors : AreCompactors script (length script.phases) tables.compactors
  pub begins : (seat : ℕ) → get nat_cmp tables.begins seat ≡ option_map (λ e. e.moment.ms) (slice_get (of_seat seat journal) 0)
  pub lasts : (seat : ℕ) → get nat_cmp tables.lasts seat ≡ option_map (λ e. e.seq) (last_or None (of_seat seat journal))
