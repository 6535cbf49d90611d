-- The runs of a script's tasks: which entries a worker makes for a task, and how the task ends.
use Rattle.std.specs.Prelude.{◌≡◌, ◌⊎◌, ◌==◌, ℕ, ℤ, List, [], fold, find, Option, Some, None, option_map, slice_get, unwrap_or}
use Rattle.moment_core.specs.declared.partition.Partition.{Partition}
pub use Rattle.moment_core.specs.Partitions.{all_times}
use Rattle.world_core.specs.Plans.{Plan, Runs}
use Rattle.world_core.specs.Stops.{IsBefore, IsStopped}
use Rattle.world_core.specs.declared.entry.Entry.{Entry}
use Rattle.shipper.specs.declared.upload.UploadEnd.{UploadEnd}
use Rattle.shipper.specs.Uploads.{upload}
use Rattle.compactor.specs.Compactions.{compaction}
use Rattle.compactor.specs.declared.compact_end.CompactEnd.{CompactEnd}
use Rattle.cleaner.specs.Cleanings.{cleaning}
use Rattle.cleaner.specs.declared.clean.CleanEnd.{CleanEnd}
use Rattle.block_keys.specs.declared.object.Object.{Object}
use Rattle.meta_fetcher.specs.declared.rules.SyncRules.{SyncRules}
use Rattle.meta_fetcher.specs.declared.sync.SyncEnd.{SyncEnd}
use Rattle.meta_fetcher.specs.declared.sync.SyncEnd.TheVariants as sync
use Rattle.meta_fetcher.specs.Syncs.{SyncRun}
use Rattle.store_calls.specs.declared.series_call.SeriesEnd.{SeriesEnd}
use Rattle.store_ranges.specs.Reads.{Query as Question}
use Rattle.store_calls.specs.SeriesCalls.{CallEnd, SeriesRun, asking}
use Rattle.lifecycle_core.specs.Shipped.{IsRefused, IsShipped}
use Rattle.querier.specs.declared.asking.Ask.{Ask}
use Rattle.querier.specs.Asks.{asks_of}
use Rattle.script_core.specs.declared.block.Block.{Block}
use Rattle.script_workers.specs.declared.work.Work.{Work}
use Rattle.script_workers.specs.declared.work.Work.TheVariants.{Upload, Sync, Compact, Clean, Query}
use Rattle.lifecycle_core.specs.Held.{declared}
use Rattle.lifecycle_core.specs.Conducts.{Who}
use Rattle.lifecycle_core.specs.Holdings.{Holding, Use}
use Rattle.lifecycle_core.specs.Setting.{Setting}

-- how a worker's run of a task ended
pub data End : Type 0 where
  uploaded : UploadEnd → End
  synced : SyncEnd → End
  compacted : CompactEnd → End
  cleaned : CleanEnd → End
  -- a gateway's part of a query, with the view that it used
  answered : Use → SeriesEnd → End
  -- a gateway's part of a query, where none of its syncs gave a view
  without_view : End
  -- a gateway's part of a query, where none of the query's times lie in its partition
  not_asked : End
  -- an upload of a block that is not shipped, for a cause of this number
  refused : ℕ → End
  -- stopped after so many operations, as the script asks
  stopped : ℕ → End

-- the times for which the gateway at a place answers
abbrev pub partition_of : Setting → ℕ → Partition
partition_of setting gateway = unwrap_or (slice_get setting.script.partitions gateway) all_times

-- by what a gateway syncs
abbrev pub sync_rules : Setting → ℕ → SyncRules
sync_rules setting gateway = record {
  consistency = setting.script.rules.consistency;
  mark_delay = setting.script.rules.ignore;
  page_limit = setting.script.rules.page_limit;
  partition = partition_of setting gateway;
}

-- what gateways are asked in a query for the times from low to high: each for those that lie in its partition, if there are any
abbrev pub asks_in : Setting → ℤ → ℤ → List Ask
asks_in setting low high = asks_of low high setting.script.partitions

-- what a worker of such a gateway is asked, if it is one's, and is asked
abbrev pub ask_to : Setting → Option ℕ → ℤ → ℤ → Option Ask
ask_to setting None low high = None
ask_to setting (Some gateway) low high = find (λ ask. ask.gateway == gateway) (asks_in setting low high)

-- the question that it asks of its view
abbrev pub question_of : Setting → ℕ → Ask → Option Question
question_of setting selector ask =
    option_map (λ matchers. asking matchers setting.script.rules.replicas ask.low ask.high)
    (slice_get setting.script.selectors selector)

-- the number of the last entry
abbrev pub last_number : List Entry → ℕ
last_number entries = fold (λ last e. e.seq) 0 entries

-- a run that the script stops
abbrev pub IsStop : Option ℕ → List Entry → Option End → Type 0
IsStop stop entries end = (n : ℕ) × IsStopped stop entries n × (end ≡ Some (stopped n))

-- A run of a plan, whose end gives such an end of the task, unless it comes to the stop of its line.
abbrev pub StoppedRun : {E : Type 0} → Plan E → (E → End) → Option ℕ → List Entry → Option End → Type 0
StoppedRun {E} plan gives stop entries end =
    (own : Option E) × Runs plan entries own × (((end ≡ option_map gives own) × IsBefore stop entries) ⊎ IsStop stop entries end)

-- An upload ships the objects of a block, unless it is stopped.
abbrev pub BlockUpload : Setting → Block → Option ℕ → List Entry → Option End → Type 0
BlockUpload setting block stop entries end =
    (objects : List Object) × (own : Option UploadEnd) × IsShipped setting block objects
    × Runs (upload block.ulid objects) entries own
    × (((end ≡ option_map uploaded own) × IsBefore stop entries) ⊎ IsStop stop entries end)

-- nothing is done, and a task comes to this end, unless it breaks off
abbrev pub NothingDone : End → List Entry → Option End → Type 0
NothingDone own entries end = (entries ≡ []) × ((end ≡ None) ⊎ (end ≡ Some own))

-- A block that is not shipped is refused. One whose objects are not there yet is given up without an operation.
abbrev pub ShipTask : Setting → Block → Option ℕ → List Entry → Option End → Type 0
ShipTask setting block stop entries end =
    BlockUpload setting block stop entries end
    ⊎ (((cause : ℕ) × IsRefused setting block cause × NothingDone (refused cause) entries end)
    ⊎ ((entries ≡ []) × (end ≡ None)))

abbrev pub UploadTask : Setting → ℕ → Option ℕ → List Entry → Option End → Type 0
UploadTask setting ulid stop entries end =
    (block : Block) × (declared setting.script ulid ≡ Some block) × ShipTask setting block stop entries end

-- What a gateway holds after a sync: the view that the sync gave, and else what it held before.
abbrev pub synced_with : Holding → List Entry → Option SyncEnd → Holding
synced_with before entries (Some (sync.View view)) =
    record { used = Some (record { view = view; last = last_number entries }); cache = before.cache }
synced_with before entries (Some (sync.Fault entry)) = before
synced_with before entries (Some (sync.Damaged entry)) = before
synced_with before entries (Some sync.TooMany) = before
synced_with before entries None = before

abbrev pub SyncTask : Setting → ℕ → Holding → List Entry → Option End → Holding → Type 0
SyncTask setting gateway before entries end after =
    (own : Option SyncEnd) × SyncRun (sync_rules setting gateway) entries own
    × (end ≡ option_map synced own) × (after ≡ synced_with before entries own)

-- What a gateway holds after a call: the cache as the call left it, and what it held before where the call was broken off.
abbrev pub called_with : Holding → Option CallEnd → Holding
called_with before (Some call) = record { used = before.used; cache = call.cache }
called_with before None = before

-- A call over a view, by the cache that the gateway holds.
abbrev pub CallTask : Use → Question → Holding → List Entry → Option End → Holding → Type 0
CallTask used asked before entries end after =
    (own : Option CallEnd) × SeriesRun used.view asked before.cache entries own
    × (end ≡ option_map (λ call. answered used call.end) own) × (after ≡ called_with before own)

-- A gateway that has a view asks it; one that has none does nothing.
abbrev pub QueryTask : Option Use → Option Question → Holding → List Entry → Option End → Holding → Type 0
QueryTask None asked before entries end after = NothingDone without_view entries end × (after ≡ before)
QueryTask (Some used) None before entries end after = ⊥
QueryTask (Some used) (Some asked) before entries end after = CallTask used asked before entries end after

-- A gateway's part of a query: every gateway has the task, also one that is not asked.
abbrev pub PartTask : Setting → ℕ → Option Ask → Holding → List Entry → Option End → Holding → Type 0
PartTask setting selector None before entries end after = NothingDone not_asked entries end × (after ≡ before)
PartTask setting selector (Some ask) before entries end after =
    QueryTask before.used (question_of setting selector ask) before entries end after

-- one round of compactions, and one cleaning, by the script's rules
abbrev pub CompactTask : Setting → Option ℕ → List Entry → Option End → Type 0
CompactTask setting stop entries end = StoppedRun (compaction setting.script.rules) compacted stop entries end

abbrev pub CleanTask : Setting → Option ℕ → List Entry → Option End → Type 0
CleanTask setting stop entries end = StoppedRun (cleaning setting.script.rules) cleaned stop entries end

-- What a worker may do for the task at a place of its phase: from what it holds, its entries, its end, which is none where the
-- run broke off, and what it holds then.
abbrev pub TaskRun : Setting → Who → ℕ → Work → Holding → List Entry → Option End → Holding → Type 0
TaskRun setting who place (Upload ulid stop) before entries end after =
    UploadTask setting ulid stop entries end × (after ≡ before)
TaskRun setting who place (Sync gateway) before entries end after =
    SyncTask setting gateway before entries end after
TaskRun setting who place (Compact stop) before entries end after =
    CompactTask setting stop entries end × (after ≡ before)
TaskRun setting who place (Clean stop) before entries end after =
    CleanTask setting stop entries end × (after ≡ before)
TaskRun setting who place (Query low high selector) before entries end after =
    PartTask setting selector (ask_to setting who.gateway low high) before entries end after
