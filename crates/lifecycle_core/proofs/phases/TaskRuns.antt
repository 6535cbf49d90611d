-- What every task may do: nothing yet; and what a task leaves of a view.
use Rattle.std.proofs.Common.{◌≡◌, ℕ, ◌<◌, Bool, true, false, List, [], ◌∷◌, length, refl, sym, ap, subst, inl, inr, suc}
use Rattle.std.specs.Prelude.{◌==◌, Option, Some, None, option_map, find}
use Rattle.std.specs.List.{All, list_any}
use Rattle.std.proofs.lemmas.List.Elements.{All-head, All-tail}
use Rattle.world_core.specs.Plans.{Plan}
use Rattle.world_core.specs.declared.entry.Entry.{Entry}
use Rattle.compactor.specs.Compactions.{compaction}
use Rattle.cleaner.specs.Cleanings.{cleaning}
use Rattle.meta_fetcher.specs.Syncs.{SyncRun}
use Rattle.meta_fetcher.specs.declared.view.View.{View}
use Rattle.meta_fetcher.specs.declared.sync.SyncEnd.{SyncEnd}
use Rattle.meta_fetcher.specs.declared.sync.SyncEnd.TheVariants as fetched
use Rattle.store_ranges.specs.Reads.{Query as Question}
use Rattle.store_calls.specs.SeriesCalls.{CallEnd, SeriesRun, series_call}
use Rattle.world_core.proofs.PlanLaws.{breaks_off}
use Rattle.matchers.specs.declared.matcher.Matcher.{Matcher}
use Rattle.querier.specs.declared.asking.Ask.{Ask}
use Rattle.script_core.specs.Lawful.{IsLawfulBlock, IsLawfulWork}
use Rattle.script_core.specs.declared.block.Block.{Block}
use Rattle.script_workers.specs.declared.work.Work.{Work}
use Rattle.script_workers.specs.declared.work.Work.TheVariants.{Upload, Sync, Compact, Clean, Query}
use Rattle.script_workers.specs.declared.task.Task.{Task}
use Rattle.lifecycle_core.specs.Conducts.{Who, Assigned, TasksAt}
use Rattle.lifecycle_core.specs.Holdings.{Holding, Use}
use Rattle.lifecycle_core.specs.Setting.{Setting}
use Rattle.lifecycle_core.specs.Tasks.{End, PartTask, QueryTask, StoppedRun, TaskRun, cleaned, compacted, ask_to, called_with, last_number, question_of, sync_rules, synced_with}
use Rattle.lifecycle_core.proofs.phases.GatewayParts.{query_is}
use Rattle.base.proofs.Lists.{slice_get-below}

found_first : {X : Type 0} (P : X → Type 0) (p : X → Bool) (x : X) (xs : List X) (b : Bool) → p x ≡ b → P x → (list_any p xs ≡ true → (y : X) × (find p xs ≡ Some y) × P y) → list_any p (x ∷ xs) ≡ true
    → (y : X) × (find p (x ∷ xs) ≡ Some y) × P y
found_first P p x xs true is own later e = (x, rw is refl, own)
found_first P p x xs false is own later e =
    let f = later (rw is at e) in (f.0, rw is f.1, f.2)

found_by : {X : Type 0} (P : X → Type 0) (p : X → Bool) (xs : List X) → All P xs → list_any p xs ≡ true → (x : X) × (find p xs ≡ Some x) × P x
found_by P p [] all e = absurd (cc (e))
found_by P p (x ∷ xs) all e = found_first P p x xs (p x) refl (All-head P x xs all) (found_by P p xs (All-tail P x xs all)) e

query_none : (used : Option Use) (asked : Option Question) (before : Holding) → ((q : Question) × (asked ≡ Some q)) → QueryTask used asked before [] None before
query_none None asked before is = ((refl, inl refl), refl)
query_none (Some used) None before is = absurd (cc (is.1))
query_none (Some used) (Some q) before is = (None, breaks_off (series_call used.view q before.cache), refl, refl)

asked_some : (setting : Setting) (selector : ℕ) (ask : Ask) → selector < length setting.script.selectors → (q : Question) × (question_of setting selector ask ≡ Some q)
asked_some setting selector ask below =
    let g = slice_get-below setting.script.selectors selector below in
    (record { selector = g.0; replicas = setting.script.rules.replicas; low = ask.low; high = ask.high }, ap (λ o. option_map (λ (m : List Matcher). record { selector = m; replicas = setting.script.rules.replicas; low = ask.low; high = ask.high }) o) g.1)

part_none : (setting : Setting) (selector : ℕ) (ask : Option Ask) (before : Holding) → selector < length setting.script.selectors → PartTask setting selector ask before [] None before
part_none setting selector None before below = ((refl, inl refl), refl)
part_none setting selector (Some ask) before below = query_none before.used (question_of setting selector ask) before (asked_some setting selector ask below)

-- a run with a stop may be broken off before its first entry
stopped_none : {E : Type 0} (plan : Plan E) (gives : E → End) (stop : Option ℕ) → StoppedRun plan gives stop [] None
stopped_none plan gives stop = (None, breaks_off plan, inl (refl, λ n same above. above))

-- a run of the work may be broken off before its first entry, and then nothing has changed
abbrev pub MayBegin : Setting → Work → Type 0
MayBegin setting w = (who : Who) (place : ℕ) (before : Holding) → TaskRun setting who place w before [] None before

pub none_yet : (setting : Setting) (w : Work) → All IsLawfulBlock setting.script.blocks → IsLawfulWork setting.script.gateways setting.script.blocks (length setting.script.selectors) w → MayBegin setting w
none_yet setting (Upload ulid stop) blocks lawful = λ who place before.
    let f = found_by IsLawfulBlock (λ (block : Block). block.ulid == ulid) setting.script.blocks blocks lawful.0 in
    ((f.0, f.1, inr (inr (refl, refl))), refl)
none_yet setting (Sync gateway) blocks lawful = λ who place before. (None, refl, refl, refl)
none_yet setting (Compact stop) blocks lawful = λ who place before. (stopped_none (compaction setting.script.rules) compacted stop, refl)
none_yet setting (Clean stop) blocks lawful = λ who place before. (stopped_none (cleaning setting.script.rules) cleaned stop, refl)
none_yet setting (Query low high selector) blocks lawful = λ who place before.
    part_none setting selector (ask_to setting who.gateway low high) before lawful.3

-- a work whose worker does it alone
abbrev pub IsAlone : Work → Type 0
IsAlone (Upload ulid stop) = Unit {0}
IsAlone (Sync gateway) = ⊥
IsAlone (Compact stop) = Unit {0}
IsAlone (Clean stop) = Unit {0}
IsAlone (Query low high selector) = ⊥

-- such a work changes nothing of what a worker holds
pub alone_keeps : (setting : Setting) (who : Who) (place : ℕ) (before after : Holding) (w : Work) (made : List Entry) (end : Option End) → IsAlone w → TaskRun setting who place w before made end after → after ≡ before
alone_keeps setting who place before after (Upload ulid stop) made end alone run = run.1
alone_keeps setting who place before after (Sync gateway) made end alone run = absurd alone
alone_keeps setting who place before after (Compact stop) made end alone run = run.1
alone_keeps setting who place before after (Clean stop) made end alone run = run.1
alone_keeps setting who place before after (Query low high selector) made end alone run = absurd alone

-- what holds of what a worker held before a task, of a view that its sync gives, and of the cache that its call leaves, holds of what
-- it holds after the task
module _ (Holds : Holding → Type 0) (setting : Setting) (who : Who) (place : ℕ) (before : Holding) (known : Holds before) (made : List Entry) where
  abbrev pub Given : Option SyncEnd → Type 0
  Given own = (new : View) → own ≡ Some (fetched.View new) → Holds (record { used = Some (record { view = new; last = last_number made }); cache = before.cache })

  abbrev pub Called : Type 0
  Called = (used : Use) (asked : Question) (call : CallEnd) → before.used ≡ Some used → SeriesRun used.view asked before.cache made (Some call) → Holds (record { used = before.used; cache = call.cache })

  sync_leaves : (own : Option SyncEnd) (after : Holding) → Given own → after ≡ synced_with before made own → Holds after
  sync_leaves None after given is = subst Holds (sym is) known
  sync_leaves (Some (fetched.View new)) after given is = subst Holds (sym is) (given new refl)
  sync_leaves (Some (fetched.Fault n)) after given is = subst Holds (sym is) known
  sync_leaves (Some (fetched.Damaged n)) after given is = subst Holds (sym is) known
  sync_leaves (Some fetched.TooMany) after given is = subst Holds (sym is) known

  call_leaves : (used : Use) (asked : Question) (own : Option CallEnd) (after : Holding) → Called → before.used ≡ Some used → SeriesRun used.view asked before.cache made own → after ≡ called_with before own → Holds after
  call_leaves used asked None after called is run same = subst Holds (sym same) known
  call_leaves used asked (Some call) after called is run same = subst Holds (sym same) (called used asked call is run)

  query_leaves : (asked : Option Question) (end : Option End) (after : Holding) → Called → QueryTask before.used asked before made end after → Holds after
  query_leaves asked end after called run = elim (query_is before.used asked before made end after run) [
    | inl none ↦ subst Holds (sym none.2) known
    | inr call ↦ call_leaves call.from call.question call.own after called call.view call.run call.left
  ]

  part_leaves : (selector : ℕ) (ask : Option Ask) (end : Option End) (after : Holding) → Called → PartTask setting selector ask before made end after → Holds after
  part_leaves selector None end after called run = subst Holds (sym run.1) known
  part_leaves selector (Some ask) end after called run = query_leaves (question_of setting selector ask) end after called run

  pub task_leaves : (w : Work) (end : Option End) (after : Holding) → ((gateway : ℕ) (own : Option SyncEnd) → w ≡ Sync gateway → SyncRun (sync_rules setting gateway) made own → Given own) → Called
      → TaskRun setting who place w before made end after → Holds after
  task_leaves (Upload ulid stop) end after gives called run = subst Holds (sym run.1) known
  task_leaves (Compact stop) end after gives called run = subst Holds (sym run.1) known
  task_leaves (Clean stop) end after gives called run = subst Holds (sym run.1) known
  task_leaves (Sync gateway) end after gives called (own, run, is, same) = sync_leaves own after (gives gateway own refl run) same
  task_leaves (Query low high selector) end after gives called run = part_leaves selector (ask_to setting who.gateway low high) end after called run

-- as many tasks are found as there are places
pub tasks_long : (whole : List Task) (places : List ℕ) (found : List Assigned) → TasksAt whole places found → length found ≡ length places
tasks_long whole [] found at = ap length at
tasks_long whole (place ∷ places) [] at = absurd at
tasks_long whole (place ∷ places) (task ∷ found) at = ap (λ n. suc n) (tasks_long whole places found at.1)
