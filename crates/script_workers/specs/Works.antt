-- The tasks of phases, one after another.
use Rattle.std.specs.Prelude.{ℕ, List, map, Bool, true, false, ◌==◌, IsTrue, IsFalse, Option, Some, None, is_some}
use Rattle.std.specs.List.{list_any, flat_map, AllPairs}
use Rattle.script_workers.specs.declared.phase.Phase.{Phase}
use Rattle.script_workers.specs.declared.task.Task.{Task}
use Rattle.script_workers.specs.declared.work.Asking.{Asking}
use Rattle.script_workers.specs.declared.work.Work.{Work}
use Rattle.script_workers.specs.declared.work.Work.TheVariants.{Upload, Sync, Compact, Clean, Query}

-- what the tasks of a phase ask for
abbrev pub works_in : List Task → List Work
works_in tasks = map (λ task. task.work) tasks

-- what the tasks of all phases ask for, in the order of their lines
abbrev pub works_of : List Phase → List Work
works_of phases = flat_map (λ phase. works_in phase.tasks) phases

-- What a task asks all gateways: a query asks them, and nothing else does.
abbrev pub asking_of : Work → Option Asking
asking_of (Upload ulid stop) = None
asking_of (Sync gateway) = None
asking_of (Compact stop) = None
asking_of (Clean stop) = None
asking_of (Query low high selector) = Some (record { low = low; high = high; selector = selector })

abbrev pub asks_all : Work → Bool
asks_all work = is_some (asking_of work)

-- whether this is a sync of the gateway at a place
abbrev pub is_sync_of : ℕ → Work → Bool
is_sync_of gateway (Upload ulid stop) = false
is_sync_of gateway (Sync own) = own == gateway
is_sync_of gateway (Compact stop) = false
is_sync_of gateway (Clean stop) = false
is_sync_of gateway (Query low high selector) = false

-- whether some task is a sync of that gateway
abbrev pub has_sync : List Work → ℕ → Bool
has_sync works gateway = list_any (is_sync_of gateway) works

abbrev pub is_compaction : Work → Bool
is_compaction (Upload ulid stop) = false
is_compaction (Sync gateway) = false
is_compaction (Compact stop) = true
is_compaction (Clean stop) = false
is_compaction (Query low high selector) = false

-- whether some task of a phase is a compaction
abbrev pub has_compaction : List Task → Bool
has_compaction tasks = list_any (λ task. is_compaction task.work) tasks

-- No two of these tasks are compactions.
abbrev pub CompactOnce : List Task → Type 0
CompactOnce tasks =
    AllPairs (λ one other. IsTrue (is_compaction one.work) → IsFalse (is_compaction other.work)) tasks
