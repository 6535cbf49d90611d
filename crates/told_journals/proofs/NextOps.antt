-- The entries of a task's run tell the operation that it asks for next.
use Rattle.base.proofs.Lists.{middle_not_nil}
use Rattle.std.proofs.Common.{◌≡◌, inl, inr, ℕ, List, ◌∷◌, ◌++◌, Option, Some, None, subst}
use Rattle.block_keys.specs.declared.object.Object.{Object}
use Rattle.world_core.specs.Plans.{ComesTo, Plan, Runs}
use Rattle.world_core.specs.declared.entry.Entry.{Entry}
use Rattle.world_core.proofs.PlanLaws.{same_op}
use Rattle.shipper.specs.Uploads.{upload}
use Rattle.shipper.specs.declared.upload.UploadEnd.{UploadEnd}
use Rattle.compactor.specs.Compactions.{compaction}
use Rattle.cleaner.specs.Cleanings.{cleaning}
use Rattle.meta_fetcher.specs.Syncs.{IsEnd, sync}
use Rattle.store_ranges.specs.Reads.{Query as Question}
use Rattle.store_calls.specs.SeriesCalls.{Gives, series_call, sources_of}
use Rattle.querier.specs.declared.asking.Ask.{Ask}
use Rattle.script_core.specs.declared.block.Block.{Block}
use Rattle.script_workers.specs.declared.work.Work.{Work}
use Rattle.script_workers.specs.declared.work.Work.TheVariants.{Upload, Sync, Compact, Clean, Query}
use Rattle.lifecycle_core.specs.Conducts.{Who}
use Rattle.lifecycle_core.specs.Holdings.{Holding, Use}
use Rattle.lifecycle_core.specs.Setting.{Setting}
use Rattle.lifecycle_core.specs.Shipped.{IsShipped}
use Rattle.lifecycle_core.specs.Tasks.{End, PartTask, QueryTask, ShipTask, TaskRun, ask_to, question_of, sync_rules}
use Rattle.lifecycle_core.proofs.blocks.OneShipped.{one_shipped}

comes_run : {T E : Type 0} (plan : Plan T) (Gives : T → E → Type 0) (entries : List Entry) (end : Option E) → ComesTo plan Gives entries end → (told : Option T) × Runs plan entries told
comes_run plan Gives entries None run = (None, run)
comes_run plan Gives entries (Some end) (told, run, is) = (Some told, run)

comes_ask : {T E : Type 0} (plan : Plan T) (Gives : T → E → Type 0) (xs : List Entry) (y z : Entry) (rest others : List Entry) (end other : Option E) → ComesTo plan Gives (xs ++ y ∷ rest) end → ComesTo plan Gives (xs ++ z ∷ others) other → y.op ≡ z.op
comes_ask plan Gives xs y z rest others end other one two =
    let a = comes_run plan Gives (xs ++ y ∷ rest) end one in
    let b = comes_run plan Gives (xs ++ z ∷ others) other two in
    same_op plan xs y z rest others a.0 b.0 a.1 b.1

-- a block is shipped in one way
again : (setting : Setting) (block : Block) (objects others : List Object) (entries : List Entry) (own : Option UploadEnd) → IsShipped setting block objects → IsShipped setting block others → Runs (upload block.ulid others) entries own → Runs (upload block.ulid objects) entries own
again setting block objects others entries own one two run = subst (λ os. Runs (upload block.ulid os) entries own) (one_shipped setting block block.body others objects two one) run

ship_asks : (setting : Setting) (block : Block) (stop : Option ℕ) (xs : List Entry) (y z : Entry) (rest others : List Entry) (end other : Option End) → ShipTask setting block stop (xs ++ y ∷ rest) end → ShipTask setting block stop (xs ++ z ∷ others) other → y.op ≡ z.op
ship_asks setting block stop xs y z rest others end other (inl (objects, own, ships, run, how)) (inl (more, also, too, on, so)) =
    same_op (upload block.ulid objects) xs y z rest others own also run (again setting block objects more (xs ++ z ∷ others) also ships too on)
ship_asks setting block stop xs y z rest others end other (inr (inl (cause, none, (nil, how)))) two = absurd (middle_not_nil xs y rest nil)
ship_asks setting block stop xs y z rest others end other (inr (inr (nil, off))) two = absurd (middle_not_nil xs y rest nil)
ship_asks setting block stop xs y z rest others end other one (inr (inl (cause, none, (nil, how)))) = absurd (middle_not_nil xs z others nil)
ship_asks setting block stop xs y z rest others end other one (inr (inr (nil, off))) = absurd (middle_not_nil xs z others nil)

query_asks : (used : Option Use) (asked : Option Question) (before after later : Holding) (xs : List Entry) (y z : Entry) (rest others : List Entry) (end other : Option End)
    → QueryTask used asked before (xs ++ y ∷ rest) end after → QueryTask used asked before (xs ++ z ∷ others) other later → y.op ≡ z.op
query_asks None asked before after later xs y z rest others end other ((nil, how), same) two = absurd (middle_not_nil xs y rest nil)
query_asks (Some used) None before after later xs y z rest others end other one two = absurd one
query_asks (Some used) (Some asked) before after later xs y z rest others end other (own, run, is, left) (also, on, so, right) =
    comes_ask (series_call used.view asked before.cache) (Gives (sources_of used.view.kept)) xs y z rest others own also run on

part_asks : (setting : Setting) (selector : ℕ) (ask : Option Ask) (before after later : Holding) (xs : List Entry) (y z : Entry) (rest others : List Entry) (end other : Option End)
    → PartTask setting selector ask before (xs ++ y ∷ rest) end after → PartTask setting selector ask before (xs ++ z ∷ others) other later → y.op ≡ z.op
part_asks setting selector None before after later xs y z rest others end other ((nil, how), same) two = absurd (middle_not_nil xs y rest nil)
part_asks setting selector (Some ask) before after later xs y z rest others end other one two =
    query_asks before.used (question_of setting selector ask) before after later xs y z rest others end other one two

pub task_asks : (setting : Setting) (who : Who) (place : ℕ) (w : Work) (held after later : Holding) (xs : List Entry) (y z : Entry) (rest others : List Entry) (end other : Option End)
    → TaskRun setting who place w held (xs ++ y ∷ rest) end after → TaskRun setting who place w held (xs ++ z ∷ others) other later → y.op ≡ z.op
task_asks setting who place (Upload ulid stop) held after later xs y z rest others end other ((block, is, ships), kept) ((also, so, more), keeps) =
    let same : also ≡ block = cc (is, so) in
    ship_asks setting block stop xs y z rest others end other ships (subst (λ (b : Block). ShipTask setting b stop (xs ++ z ∷ others) other) same more)
task_asks setting who place (Sync gateway) held after later xs y z rest others end other (own, run, is, kept) (also, on, so, keeps) =
    comes_ask (sync (sync_rules setting gateway)) (IsEnd (sync_rules setting gateway)) xs y z rest others own also run on
task_asks setting who place (Compact stop) held after later xs y z rest others end other ((own, run, how), kept) ((also, on, so), keeps) =
    same_op (compaction setting.script.rules) xs y z rest others own also run on
task_asks setting who place (Clean stop) held after later xs y z rest others end other ((own, run, how), kept) ((also, on, so), keeps) =
    same_op (cleaning setting.script.rules) xs y z rest others own also run on
task_asks setting who place (Query low high selector) held after later xs y z rest others end other one two =
    part_asks setting selector (ask_to setting who.gateway low high) held after later xs y z rest others end other one two
