-- Fronts of runs: what was cut off before its last entry is a run without an end.
use Rattle.std.proofs.Common.{◌≡◌, ◌⊎◌, inl, inr, ℕ, List, ◌∷◌, ◌++◌, Option, Some, None, refl, arith}
use Rattle.std.proofs.lemmas.List.{length-append}
use Rattle.world_core.specs.Plans.{Plan}
use Rattle.world_core.specs.Stops.{IsBefore}
use Rattle.world_core.specs.declared.entry.Entry.{Entry}
use Rattle.world_core.proofs.PlanLaws.{comes_front, front}
use Rattle.shipper.specs.Uploads.{upload}
use Rattle.compactor.specs.Compactions.{compaction}
use Rattle.cleaner.specs.Cleanings.{cleaning}
use Rattle.meta_fetcher.specs.Syncs.{IsEnd, SyncRun, sync}
use Rattle.meta_fetcher.specs.declared.rules.SyncRules.{SyncRules}
use Rattle.meta_fetcher.specs.declared.sync.SyncEnd.{SyncEnd}
use Rattle.store_ranges.specs.Reads.{Query as Question}
use Rattle.store_calls.specs.SeriesCalls.{Gives, series_call, sources_of}
use Rattle.script_core.specs.declared.block.Block.{Block}
use Rattle.script_workers.specs.declared.work.Work.{Work}
use Rattle.script_workers.specs.declared.work.Work.TheVariants.{Upload, Sync, Compact, Clean, Query}
use Rattle.lifecycle_core.specs.Conducts.{Who}
use Rattle.lifecycle_core.specs.Holdings.{Holding, Use}
use Rattle.lifecycle_core.specs.Setting.{Setting}
use Rattle.querier.specs.declared.asking.Ask.{Ask}
use Rattle.lifecycle_core.specs.Tasks.{End, IsStop, PartTask, QueryTask, ShipTask, StoppedRun, TaskRun, ask_to, cleaned, compacted, question_of, sync_rules}
use Rattle.base.proofs.Lists.{middle_not_nil}

-- ---- syncs

sync_cut : (rules : SyncRules) (xs : List Entry) (y : Entry) (rest : List Entry) (end : Option SyncEnd) → SyncRun rules (xs ++ y ∷ rest) end → SyncRun rules xs None
sync_cut rules xs y rest end run = comes_front (sync rules) (IsEnd rules) xs y rest end run

-- ---- tasks

before_stop : (stop : Option ℕ) (xs : List Entry) (y : Entry) (rest : List Entry) (own : Option End) (end : Option End)
    → ((end ≡ own) × IsBefore stop (xs ++ y ∷ rest)) ⊎ IsStop stop (xs ++ y ∷ rest) end → IsBefore stop xs
before_stop stop xs y rest own end (inl (is, early)) = λ n same above. let below = early n same above in omega (arith, below, length-append xs (y ∷ rest))
before_stop stop xs y rest own end (inr (n, (is, above, count), same)) = λ m other above'.
    let equal : n ≡ m = cc (is, other) in omega (arith, equal, count, length-append xs (y ∷ rest))

query_cut : (used : Option Use) (asked : Option Question) (before after : Holding) (xs : List Entry) (y : Entry) (rest : List Entry) (end : Option End) → QueryTask used asked before (xs ++ y ∷ rest) end after → QueryTask used asked before xs None before
query_cut None asked before after xs y rest end ((nil, how), same) = absurd (middle_not_nil xs y rest nil)
query_cut (Some used) None before after xs y rest end run = run
query_cut (Some used) (Some asked) before after xs y rest end (own, run, is, same) =
    (None, comes_front (series_call used.view asked before.cache) (Gives (sources_of used.view.kept)) xs y rest own run, refl, refl)

part_cut : (setting : Setting) (selector : ℕ) (ask : Option Ask) (before after : Holding) (xs : List Entry) (y : Entry) (rest : List Entry) (end : Option End)
    → PartTask setting selector ask before (xs ++ y ∷ rest) end after → PartTask setting selector ask before xs None before
part_cut setting selector None before after xs y rest end ((nil, how), same) = absurd (middle_not_nil xs y rest nil)
part_cut setting selector (Some ask) before after xs y rest end run = query_cut before.used (question_of setting selector ask) before after xs y rest end run

ship_cut : (setting : Setting) (block : Block) (stop : Option ℕ) (xs : List Entry) (y : Entry) (rest : List Entry) (end : Option End) → ShipTask setting block stop (xs ++ y ∷ rest) end → ShipTask setting block stop xs None
ship_cut setting block stop xs y rest end (inl (objects, own, ships, run, how)) =
    inl (objects, None, ships, front (upload block.ulid objects) xs y rest own run, inl (refl, before_stop stop xs y rest _ end how))
ship_cut setting block stop xs y rest end (inr (inl (cause, none, (nil, how)))) = absurd (middle_not_nil xs y rest nil)
ship_cut setting block stop xs y rest end (inr (inr (nil, off))) = absurd (middle_not_nil xs y rest nil)

stopped_cut : {E : Type 0} (plan : Plan E) (gives : E → End) (stop : Option ℕ) (xs : List Entry) (y : Entry) (rest : List Entry) (end : Option End) → StoppedRun plan gives stop (xs ++ y ∷ rest) end → StoppedRun plan gives stop xs None
stopped_cut plan gives stop xs y rest end (own, run, how) = (None, front plan xs y rest own run, inl (refl, before_stop stop xs y rest _ end how))

-- entries of a task's run before its last are a run without an end
pub task_cut : (setting : Setting) (who : Who) (place : ℕ) (w : Work) (before after : Holding) (xs : List Entry) (y : Entry) (rest : List Entry) (end : Option End)
    → TaskRun setting who place w before (xs ++ y ∷ rest) end after → TaskRun setting who place w before xs None before
task_cut setting who place (Upload ulid stop) before after xs y rest end ((block, is, ships), same) = ((block, is, ship_cut setting block stop xs y rest end ships), refl)
task_cut setting who place (Sync gateway) before after xs y rest end (own, run, is, same) = (None, sync_cut (sync_rules setting gateway) xs y rest own run, refl, refl)
task_cut setting who place (Compact stop) before after xs y rest end (run, same) = (stopped_cut (compaction setting.script.rules) compacted stop xs y rest end run, refl)
task_cut setting who place (Clean stop) before after xs y rest end (run, same) = (stopped_cut (cleaning setting.script.rules) cleaned stop xs y rest end run, refl)
task_cut setting who place (Query low high selector) before after xs y rest end run = part_cut setting selector (ask_to setting who.gateway low high) before after xs y rest end run
