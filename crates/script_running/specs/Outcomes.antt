-- How the lines of a script came out, by the ends to which its workers came.
use Rattle.std.specs.Prelude.{◌≡◌, ℕ, ◌+◌, Bool, true, false, List, [], ◌∷◌, ◌++◌, length, map, Option, Some, None}
use Rattle.std.specs.List.{AllZip}
use Rattle.querier.specs.Gathered.{IsGathered, answer}
use Rattle.querier.specs.declared.answer.Answer.{Answer}
use Rattle.querier.specs.declared.answer.Names.{Names}
use Rattle.shipper.specs.declared.upload.UploadEnd.TheVariants as shipped
use Rattle.meta_fetcher.specs.declared.sync.SyncEnd.{SyncEnd}
use Rattle.meta_fetcher.specs.declared.sync.SyncEnd.TheVariants as fetched
use Rattle.compactor.specs.declared.compact_end.CompactEnd.TheVariants as merged
use Rattle.cleaner.specs.declared.clean.CleanEnd.TheVariants as swept
use Rattle.store_calls.specs.declared.series_call.SeriesEnd.{SeriesEnd}
use Rattle.store_calls.specs.declared.series_call.SeriesEnd.TheVariants as called
use Rattle.script_workers.specs.Hands.{gateway_count, gateway_of, hands_of_task}
use Rattle.script_workers.specs.Works.{asks_all}
use Rattle.script_core.specs.Workers.{workers_of}
use Rattle.script_workers.specs.declared.phase.Phase.{Phase}
use Rattle.script_core.specs.declared.script.Script.{Script}
use Rattle.script_workers.specs.declared.task.Task.{Task}
use Rattle.script_workers.specs.declared.work.Work.{Work}
use Rattle.script_workers.specs.declared.work.Work.TheVariants as work
use Rattle.script_workers.specs.declared.worker.Worker.{Worker}
use Rattle.lifecycle_core.specs.Conducts.{CameTo}
use Rattle.lifecycle_core.specs.Tasks.{End, uploaded, synced, compacted, cleaned, answered, not_asked, refused, without_view, stopped}
use Rattle.script_running.specs.declared.came.Came.{Came}
use Rattle.script_running.specs.declared.came.Came.TheVariants as came_to
use Rattle.script_running.specs.declared.came.Stop.TheVariants as stop
use Rattle.script_running.specs.declared.outcome.SyncOutcome.{SyncOutcome}
use Rattle.script_running.specs.declared.outcome.SyncOutcome.TheVariants as sync
use Rattle.script_running.specs.declared.outcome.QueryOutcome.{QueryOutcome}
use Rattle.script_running.specs.declared.outcome.QueryOutcome.TheVariants as query
use Rattle.script_running.specs.declared.outcome.QueryPart.{QueryPart}
use Rattle.script_running.specs.declared.outcome.QueryPart.TheVariants as given
use Rattle.script_running.specs.declared.outcome.NoAnswer.{NoAnswer}
use Rattle.script_running.specs.declared.outcome.NoAnswer.TheVariants as none

-- what a worker's part of a task came to
abbrev pub Part : Type 0
Part = Came QueryPart

-- how a task came out
abbrev pub Outcome : Type 0
Outcome = Came QueryOutcome

abbrev pub sync_outcome : SyncEnd → SyncOutcome
sync_outcome (fetched.View view) = sync.Blocks (length view.kept)
sync_outcome (fetched.Fault entry) = sync.Fault entry
sync_outcome (fetched.Damaged entry) = sync.Damaged entry
sync_outcome fetched.TooMany = sync.TooMany

-- how a gateway's call came out, over a view with this first entry
abbrev pub call_part : ℕ → SeriesEnd → QueryPart
call_part first (called.Answer series sources) = given.Answer (answer series sources) first
call_part first (called.Missing entry) = given.NoAnswer (none.Missing entry) first
call_part first (called.Damaged entry) = given.NoAnswer (none.Damaged entry) first
call_part first (called.Fault entry) = given.NoAnswer (none.Fault entry) first

-- a gateway's part of what all gateways are asked, by the end to which it came
abbrev pub IsGatewayPart : End → Part → Type 0
IsGatewayPart (answered used end) p = p ≡ came_to.Query (call_part used.view.first end)
IsGatewayPart without_view p = p ≡ came_to.Query given.NoView
IsGatewayPart not_asked p = p ≡ came_to.Query given.NotAsked
-- it comes to no other end
IsGatewayPart other p = ⊥

-- what one worker does of a task that asks not all gateways, by the end to which it came: all of it
abbrev pub IsOwnPart : Work → End → Part → Type 0
IsOwnPart (work.Upload ulid count) (uploaded end) p = p ≡ came_to.Upload (stop.Ended end)
IsOwnPart (work.Upload ulid count) (refused cause) p = p ≡ came_to.Unshipped cause
IsOwnPart (work.Upload ulid count) (stopped at) p = p ≡ came_to.Upload (stop.At at)
IsOwnPart (work.Sync gateway) (synced end) p = p ≡ came_to.Sync (sync_outcome end)
IsOwnPart (work.Compact count) (compacted end) p = p ≡ came_to.Compact (stop.Ended end)
IsOwnPart (work.Compact count) (stopped at) p = p ≡ came_to.Compact (stop.At at)
IsOwnPart (work.Clean count) (cleaned end) p = p ≡ came_to.Clean (stop.Ended end)
IsOwnPart (work.Clean count) (stopped at) p = p ≡ came_to.Clean (stop.At at)
-- no other task comes to such an end
IsOwnPart other end p = ⊥

abbrev pub PartBy : Bool → Work → End → Part → Type 0
PartBy true w = IsGatewayPart
PartBy false w = IsOwnPart w

-- A worker's part of a task, by the end to which it came.
abbrev pub IsPart : Work → End → Part → Type 0
IsPart w = PartBy (asks_all w) w

-- why a gateway gave no answer, if it was asked and gave none
abbrev pub why_none : QueryPart → Option NoAnswer
why_none given.NotAsked = None
why_none given.NoView = Some none.NoView
why_none (given.Answer own first) = None
why_none (given.NoAnswer why first) = Some why

abbrev pub or_first : Option NoAnswer → ℕ → Option (ℕ × NoAnswer) → Option (ℕ × NoAnswer)
or_first (Some why) gateway others = Some (gateway, why)
or_first None gateway others = others

-- the first of gateways from a number on that gave no answer, and why
abbrev pub first_none : ℕ → List QueryPart → Option (ℕ × NoAnswer)
first_none gateway [] = None
first_none gateway (one ∷ parts) = or_first (why_none one) gateway (first_none (gateway + 1) parts)

-- the answers that were given
abbrev pub answers_of : List QueryPart → List Answer
answers_of [] = []
answers_of (given.NotAsked ∷ parts) = answers_of parts
answers_of (given.NoView ∷ parts) = answers_of parts
answers_of (given.Answer own first ∷ parts) = own ∷ answers_of parts
answers_of (given.NoAnswer why first ∷ parts) = answers_of parts

-- what gateways from a number on name, by their answers
abbrev pub names_of : ℕ → List QueryPart → List Names
names_of gateway [] = []
names_of gateway (given.NotAsked ∷ parts) = names_of (gateway + 1) parts
names_of gateway (given.NoView ∷ parts) = names_of (gateway + 1) parts
names_of gateway (given.Answer own first ∷ parts) =
    record { gateway = gateway; sources = own.sources } ∷ names_of (gateway + 1) parts
names_of gateway (given.NoAnswer why first ∷ parts) = names_of (gateway + 1) parts

-- How a query comes out, by the parts of all gateways in their order: by the first that gave no answer, or else with the one answer
-- that theirs make, and what each of them names.
abbrev pub IsQueryOutcome : List QueryPart → QueryOutcome → Type 0
IsQueryOutcome parts (query.NoAnswer gateway why) = first_none 0 parts ≡ Some (gateway, why)
IsQueryOutcome parts (query.Answer own names) =
    (first_none 0 parts ≡ None) × IsGathered (answers_of parts) own × (names ≡ names_of 0 parts)

-- the part is the whole of its task, which came out so
abbrev pub IsWhole : Part → Outcome → Type 0
IsWhole (came_to.Upload end) o = o ≡ came_to.Upload end
IsWhole (came_to.Unshipped cause) o = o ≡ came_to.Unshipped cause
IsWhole (came_to.Sync end) o = o ≡ came_to.Sync end
IsWhole (came_to.Compact end) o = o ≡ came_to.Compact end
IsWhole (came_to.Clean end) o = o ≡ came_to.Clean end
IsWhole (came_to.Query own) o = ⊥

-- How a task comes out that asks all gateways, by the parts of all of them in their order; and any other, by that of its one worker.
abbrev pub OutcomeBy : Bool → List Part → Outcome → Type 0
OutcomeBy true parts o =
    (own : List QueryPart) × (end : QueryOutcome) × (parts ≡ map came_to.Query own) × IsQueryOutcome own end
    × (o ≡ came_to.Query end)
OutcomeBy false parts o = (one : Part) × (parts ≡ one ∷ []) × IsWhole one o

-- how a task comes out, by the parts of all who did it
abbrev pub IsOutcomeOf : Work → List Part → Outcome → Type 0
IsOutcomeOf work parts o = OutcomeBy (asks_all work) parts o

-- the parts of all gateways, or of one worker who did all
abbrev pub PartsBy : Bool → List Part → Type 0
PartsBy true parts = (own : List QueryPart) × (parts ≡ map came_to.Query own)
PartsBy false parts = (one : Part) × (o : Outcome) × (parts ≡ one ∷ []) × IsWhole one o

-- the parts are those of all who do the task
abbrev pub AreAllParts : Work → List Part → Type 0
AreAllParts work parts = PartsBy (asks_all work) parts

-- How a task comes out, by the ends of those who did it, in their order.
abbrev pub IsOutcome : Work → List End → Outcome → Type 0
IsOutcome w ends o = (parts : List Part) × AllZip (IsPart w) ends parts × IsOutcomeOf w parts o

-- the task at a place of a phase came out so, by the ends of the phase's workers
pub record TaskCame (script : Script) (workers : List Worker) (ends : List (List End)) (place : ℕ) (task : Task) (o : Outcome) : Type 0 where
  pub own : List End
  pub came : AllZip (λ hand end. CameTo workers ends (gateway_of hand) place end) (hands_of_task (gateway_count script.gateways) place task.work) own
  pub is : IsOutcome task.work own o

-- the tasks of a phase, from a place on
abbrev pub TasksCame : Script → List Worker → List (List End) → ℕ → List Task → List Outcome → Type 0
TasksCame script workers ends place [] outcomes = outcomes ≡ []
TasksCame script workers ends place (task ∷ tasks) [] = ⊥
TasksCame script workers ends place (task ∷ tasks) (o ∷ outcomes) =
    TaskCame script workers ends place task o × TasksCame script workers ends (place + 1) tasks outcomes

-- Phases from a number on, by the ends of each: how each came out, and so one after another.
abbrev pub PhasesTold : {Ends : Type 0} → (ℕ → Phase → Ends → List Outcome → Type 0) → ℕ → List Phase → List Ends → List Outcome → Type 0
PhasesTold came number [] ends outcomes = (ends ≡ []) × (outcomes ≡ [])
PhasesTold came number (phase ∷ phases) [] outcomes = ⊥
PhasesTold came number (phase ∷ phases) (first ∷ later) outcomes =
    (own : List Outcome) × (others : List Outcome) × (outcomes ≡ own ++ others) × came number phase first own × PhasesTold came (number + 1) phases later others

-- the tasks of phases, from a number on, by the ends to which the workers of each phase came
abbrev pub PhasesCame : Script → ℕ → List Phase → List (List (List End)) → List Outcome → Type 0
PhasesCame script number phases ends outcomes = PhasesTold (λ number phase ends own. TasksCame script (workers_of script number) ends 0 phase.tasks own) number phases ends outcomes

-- the activity ended as asked
abbrev pub is_as_asked : Outcome → Bool
is_as_asked (came_to.Upload (stop.Ended (shipped.Done count))) = true
is_as_asked (came_to.Upload (stop.Ended shipped.Already)) = true
is_as_asked (came_to.Upload (stop.Ended (shipped.Fault entry))) = false
is_as_asked (came_to.Upload (stop.At count)) = true
is_as_asked (came_to.Unshipped cause) = false
is_as_asked (came_to.Sync (sync.Blocks count)) = true
is_as_asked (came_to.Sync (sync.Fault entry)) = false
is_as_asked (came_to.Sync (sync.Damaged entry)) = false
is_as_asked (came_to.Sync sync.TooMany) = false
is_as_asked (came_to.Compact (stop.Ended (merged.Done collected joined expired))) = true
is_as_asked (came_to.Compact (stop.Ended (merged.Fault entry))) = false
is_as_asked (came_to.Compact (stop.Ended (merged.Missing entry))) = false
is_as_asked (came_to.Compact (stop.Ended (merged.Damaged entry))) = false
is_as_asked (came_to.Compact (stop.Ended merged.TooMany)) = false
is_as_asked (came_to.Compact (stop.Ended merged.TooLarge)) = false
is_as_asked (came_to.Compact (stop.At count)) = true
is_as_asked (came_to.Clean (stop.Ended (swept.Done blocks partials))) = true
is_as_asked (came_to.Clean (stop.Ended (swept.Fault entry))) = false
is_as_asked (came_to.Clean (stop.Ended (swept.Damaged entry))) = false
is_as_asked (came_to.Clean (stop.Ended swept.TooMany)) = false
is_as_asked (came_to.Clean (stop.At count)) = true
is_as_asked (came_to.Query (query.Answer own names)) = true
is_as_asked (came_to.Query (query.NoAnswer gateway why)) = false
