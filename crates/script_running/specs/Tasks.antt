-- What a worker's hand gains by one task, and what the task came to.
use Rattle.std.specs.Prelude.{◌≡◌, ℕ, Bool, true, false, List, ◌++◌, length, All, Option, Some, None, Result, Ok, Err}
use Rattle.world_core.specs.declared.entry.Entry.{Entry}
use Rattle.meta_fetcher.specs.declared.sync.SyncEnd.{SyncEnd}
use Rattle.meta_fetcher.specs.declared.sync.SyncEnd.TheVariants as fetched
use Rattle.meta_fetcher.specs.declared.view.View.{View}
use Rattle.store_ranges.specs.Reads.{Query as Question}
use Rattle.script_core.specs.Lawful.{IsLawfulWork}
use Rattle.script_core.specs.declared.script.Script.{Script}
use Rattle.script_workers.specs.declared.work.Work.{Work}
use Rattle.lifecycle_core.specs.Holdings.{Holding}
use Rattle.lifecycle_core.specs.Tasks.{End, QueryTask}
use Rattle.lifecycle_core.specs.Ways.{IsDueAfter}
use Rattle.script_running.specs.Outcomes.{IsGatewayPart, IsPart, Part}
use Rattle.script_running.specs.Sights.{Sees}
use Rattle.script_running.specs.declared.came.Broken.{Broken}
use Rattle.script_running.specs.declared.came.Broken.TheVariants as broken
use Rattle.script_running.specs.declared.sight.Sight.{Sight}

-- the script allows the work
abbrev pub Allows : Script → Work → Type 0
Allows script work = IsLawfulWork script.gateways script.blocks (length script.selectors) work

-- what holds where an operation was answered that the journal is full
abbrev pub WhenFull : {X : Type 0} → Result X Broken → Type 0 → Type 0
WhenFull (Ok own) P = Unit {0}
WhenFull (Err broken.Full) P = P
WhenFull (Err broken.NoMemory) P = Unit {0}

-- what holds where it came to its end
abbrev pub WhenDone : {X : Type 0} → Result X Broken → Type 0 → Type 0
WhenDone (Ok own) P = P
WhenDone (Err why) P = Unit {0}

-- whether an operation was answered that the journal is full, by what it broke off
abbrev pub is_full_came : {X : Type 0} → Result X Broken → Bool
is_full_came (Ok x) = false
is_full_came (Err broken.Full) = true
is_full_came (Err broken.NoMemory) = false

-- whether memory was wanting
abbrev pub is_short_came : {X : Type 0} → Result X Broken → Bool
is_short_came (Ok x) = false
is_short_came (Err broken.Full) = false
is_short_came (Err broken.NoMemory) = true

-- entries that one seat added, which with this end are such a run
pub record Adds {E : Type 0} (is_run : List Entry → E → Type 0) (seat : ℕ) (old new : List Entry) (end : E) (came : Result Part Broken) : Type 0 where
  pub made : List Entry
  pub entries : new ≡ old ++ made
  pub seats : All (λ e. e.seat ≡ seat) made
  pub run : is_run made end
  pub due : WhenFull came (IsDueAfter is_run seat made)

-- A part comes to its end, or breaks off without one.
abbrev pub CameAs : (End → Part → Type 0) → Option End → Result Part Broken → Type 0
CameAs is_part (Some end) (Ok own) = is_part end own
CameAs is_part (Some end) (Err broken.Full) = ⊥
CameAs is_part (Some end) (Err broken.NoMemory) = ⊥
CameAs is_part None (Ok own) = ⊥
CameAs is_part None (Err broken.Full) = Unit {0}
CameAs is_part None (Err broken.NoMemory) = Unit {0}

-- a worker's part of a task
abbrev pub CameBy : Work → Option End → Result Part Broken → Type 0
CameBy work = CameAs (IsPart work)

-- the view that a sync leaves: a sync that came to none, or was broken off, leaves what was seen before
abbrev pub view_by : Option View → Option SyncEnd → Option View
view_by before (Some (fetched.View view)) = Some view
view_by before (Some (fetched.Fault number)) = before
view_by before (Some (fetched.Damaged number)) = before
view_by before (Some fetched.TooMany) = before
view_by before None = before

-- an end of a run, and what its worker holds then
abbrev pub Does : (List Entry → Option End → Holding → Type 0) → List Entry → Option End → Type 0
Does is_run made end = (after : Holding) × is_run made end after

-- A worker did what may be done so: what its hand's list gained is such a run, with the end by which its part came out. It holds what
-- the run leaves, and where the run came to its end, it sees by this.
pub record HasDone (is_run : List Entry → Option End → Holding → Type 0) (is_part : End → Part → Type 0) (seat : ℕ) (old new : List Entry) (sight : Sight) (came : Result Part Broken) : Type 0 where
  pub made : List Entry
  pub entries : new ≡ old ++ made
  pub seats : All (λ e. e.seat ≡ seat) made
  pub end : Option End
  pub after : Holding
  pub run : is_run made end after
  pub sees : WhenDone came (Sees after sight)
  pub by : CameAs is_part end came
  pub due : WhenFull came (IsDueAfter (Does is_run) seat made)

-- A gateway that held this was asked a question: with the view of what it holds, if it has one.
abbrev pub HasAsked : Holding → Question → ℕ → List Entry → List Entry → Sight → Result Part Broken → Type 0
HasAsked before asked = HasDone (QueryTask before.used (Some asked) before) IsGatewayPart
