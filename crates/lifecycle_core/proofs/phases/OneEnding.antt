-- A journal tells the ends of what is done: two runs of a script over one journal came to the same ends.
use Rattle.base.proofs.Membership.{contains_first}
use Rattle.base.proofs.Lists.{middle_not_nil}
use Rattle.base.proofs.Options.{Some-option_map}
use Rattle.std.proofs.Common.{◌≡◌, ◌≢◌, ◌⊎◌, inl, inr, ℕ, ◌+◌, ◌<◌, ◌==◌, Bool, true, false, List, [], ◌∷◌, ◌++◌, length, map, All, Contains, Option, Some, None, refl, sym, ◌∙◌, ap, subst, arith, append-nil}
use Rattle.std.specs.Prelude.{option_map, slice_get}
use Rattle.std.specs.List.{AllZip}
use Rattle.std.proofs.lemmas.Bool.Decides.{nat_tests}
use Rattle.std.proofs.lemmas.List.{length-append}
use Rattle.std.proofs.lemmas.List.Elements.{All-cons, All-contains, All-nil, All-weaker, Contains-append_right}
use Rattle.block_keys.specs.declared.object.Object.{Object}
use Rattle.world_core.specs.Plans.{ComesTo, Plan, Runs}
use Rattle.world_core.specs.Stops.{IsBefore}
use Rattle.world_core.specs.declared.entry.Entry.{Entry}
use Rattle.world_core.proofs.PlanLaws.{once, one_end}
use Rattle.shipper.specs.Uploads.{upload}
use Rattle.compactor.specs.Compactions.{compaction}
use Rattle.cleaner.specs.Cleanings.{cleaning}
use Rattle.shipper.specs.declared.upload.UploadEnd.{UploadEnd}
use Rattle.meta_fetcher.specs.Syncs.{IsEnd, SyncRun, sync}
use Rattle.meta_fetcher.specs.declared.sync.SyncEnd.{SyncEnd}
use Rattle.store_ranges.specs.Reads.{Query as Question}
use Rattle.store_calls.specs.SeriesCalls.{CallEnd, Gives, SeriesRun, series_call, sources_of}
use Rattle.store_calls.proofs.OneCall.{call_tells}
use Rattle.script_workers.specs.Hands.{gateway_count, hands_of, seats_after, workers_from}
use Rattle.script_workers.specs.declared.hand.Hand.{Hand}
use Rattle.script_workers.specs.declared.phase.Phase.{Phase}
use Rattle.script_workers.specs.declared.task.Task.{Task}
use Rattle.script_workers.specs.declared.work.Work.{Work}
use Rattle.script_workers.specs.declared.work.Work.TheVariants.{Upload, Sync, Compact, Clean, Query}
use Rattle.script_workers.specs.declared.worker.Worker.{Worker}
use Rattle.script_core.specs.Workers.{seats_before, workers_after, workers_of}
use Rattle.script_core.specs.declared.block.Block.{Block}
use Rattle.world_core.specs.Journals.{of_seat}
use Rattle.lifecycle_core.specs.Conducts.{AreDone, Assigned, PhaseRun, TasksAt, TasksRun, Who, WorkerRun, who_of}
use Rattle.lifecycle_core.specs.Holdings.{Holding, Holdings, Use, holding_of, none_held}
use Rattle.lifecycle_core.specs.Phases.{IsFinished, IsRunOf, by_script, by_workers}
use Rattle.lifecycle_core.specs.Setting.{Setting}
use Rattle.querier.specs.declared.asking.Ask.{Ask}
use Rattle.lifecycle_core.specs.Shipped.{IsShipped}
use Rattle.lifecycle_core.specs.Tasks.{End, IsStop, PartTask, QueryTask, ShipTask, TaskRun, answered, ask_to, called_with, cleaned, compacted, question_of, refused, sync_rules, synced, synced_with, uploaded}
use Rattle.lifecycle_core.specs.Ways.{AreFinished, PhasesRun}
use Rattle.lifecycle_core.proofs.blocks.OneShipped.{not_refused, one_cause, one_shipped}
use Rattle.lifecycle_core.proofs.views.SyncEnds.{sync_tells}
use Rattle.lifecycle_core.proofs.phases.TaskRuns.{tasks_long}

-- ---- lists and options

-- how two ways to part a list go together
pub data Parted {X : Type 0} (xs ys made others : List X) : Type 0 where
  alike : xs ≡ made → ys ≡ others → Parted xs ys made others
  first_longer : (y : X) (zs : List X) → xs ≡ made ++ y ∷ zs → others ≡ y ∷ zs ++ ys → Parted xs ys made others
  second_longer : (y : X) (zs : List X) → made ≡ xs ++ y ∷ zs → ys ≡ y ∷ zs ++ others → Parted xs ys made others

pub parted : {X : Type 0} (xs ys made others : List X) → xs ++ ys ≡ made ++ others → Parted xs ys made others
parted [] ys [] others is = alike refl is
parted [] ys (m ∷ made) others is = second_longer m made refl is
parted (x ∷ xs) ys [] others is = first_longer x xs refl (sym is)
parted (x ∷ xs) ys (m ∷ made) others is =
    let same : x ≡ m = cc (is) in
    elim (parted xs ys made others (cc (is))) [
      | alike one two ↦ alike (cc (same, one)) two
      | first_longer y zs one two ↦ first_longer y zs (cc (same, one)) two
      | second_longer y zs one two ↦ second_longer y zs (cc (same, one)) two
    ]

longer : (xs : List Entry) (y : Entry) (rest : List Entry) → length xs < length (xs ++ y ∷ rest)
longer xs y rest = omega (arith, length-append xs (y ∷ rest))

pub within : (P : Entry → Type 0) (xs : List Entry) (y : Entry) (zs : List Entry) → All P (xs ++ y ∷ zs) → P y
within P xs y zs all = All-contains P (xs ++ y ∷ zs) y all (Contains-append_right xs (y ∷ zs) y (contains_first y zs))

-- ---- tasks

comes_once : {T E : Type 0} (plan : Plan T) (Gives : T → E → Type 0) (xs : List Entry) (last : E) (y : Entry) (rest : List Entry) (end : Option E) → ComesTo plan Gives xs (Some last) → ComesTo plan Gives (xs ++ y ∷ rest) end → ⊥
comes_once plan Gives xs last y rest None (told, run, is) more = once plan xs told y rest None run more
comes_once plan Gives xs last y rest (Some end) (told, run, is) (also, more, so) = once plan xs told y rest (Some also) run more

same_upload : (setting : Setting) (block other : Block) (objects others : List Object) (entries : List Entry) (own : Option UploadEnd) → block ≡ other → IsShipped setting block objects → IsShipped setting other others
    → Runs (upload other.ulid others) entries own → Runs (upload block.ulid objects) entries own
same_upload setting block other objects others entries own same ships also run =
    let objects_same : objects ≡ others = one_shipped setting block block.body objects others ships (subst (λ (b : Block). IsShipped setting b others) (sym same) also) in
    subst (λ (b : Block). Runs (upload b.ulid objects) entries own) (sym same) (subst (λ (os : List Object). Runs (upload other.ulid os) entries own) (sym objects_same) run)

-- a run of a plan, whose end gives the task's, or which was stopped
abbrev Stops : {E : Type 0} → (E → End) → Option ℕ → List Entry → Option End → Option E → Type 0
Stops {E} gives stop entries end own = ((end ≡ option_map gives own) × IsBefore stop entries) ⊎ IsStop stop entries end

stopped_once : {E : Type 0} (plan : Plan E) (gives : E → End) (stop : Option ℕ) (xs : List Entry) (y : Entry) (rest : List Entry) (last : End) (end : Option End) (own more : Option E) → Runs plan xs own → Stops gives stop xs (Some last) own
    → Runs plan (xs ++ y ∷ rest) more → Stops gives stop (xs ++ y ∷ rest) end more → ⊥
stopped_once {E} plan gives stop xs y rest last end own more run (inl (is, early)) on how =
    let made = Some-option_map gives own last is in once plan xs made.0 y rest more (subst (λ (o : Option E). Runs plan xs o) made.1 run) on
stopped_once {E} plan gives stop xs y rest last end own more run (inr (n, (stops, above, count), is)) on (inl (so, early)) =
    let below = early n stops above in omega (arith, below, count, longer xs y rest)
stopped_once {E} plan gives stop xs y rest last end own more run (inr (n, (stops, above, count), is)) on (inr (m, (also, over, many), so)) =
    let same : n ≡ m = cc (stops, also) in omega (arith, same, count, many, longer xs y rest)

stopped_tells : {E : Type 0} (plan : Plan E) (gives : E → End) (stop : Option ℕ) (xs : List Entry) (one other : End) (own more : Option E) → Runs plan xs own → Stops gives stop xs (Some one) own → Runs plan xs more → Stops gives stop xs (Some other) more → one ≡ other
stopped_tells {E} plan gives stop xs one other own more run (inl (is, early)) on (inl (so, soon)) =
    let first = Some-option_map gives own one is in
    let second = Some-option_map gives more other so in
    let same = one_end plan xs first.0 second.0 (subst (λ (o : Option E). Runs plan xs o) first.1 run) (subst (λ (o : Option E). Runs plan xs o) second.1 on) in
    first.2 ∙ ap gives same ∙ sym second.2
stopped_tells {E} plan gives stop xs one other own more run (inl (is, early)) on (inr (n, (stops, above, count), so)) = absurd (let below = early n stops above in omega (arith, below, count))
stopped_tells {E} plan gives stop xs one other own more run (inr (n, (stops, above, count), is)) on (inl (so, early)) = absurd (let below = early n stops above in omega (arith, below, count))
stopped_tells {E} plan gives stop xs one other own more run (inr (n, (stops, above, count), is)) on (inr (m, (also, over, many), so)) =
    let same : n ≡ m = cc (stops, also) in cc (is, so, same)

-- ---- uploads

ship_once : (setting : Setting) (block : Block) (stop : Option ℕ) (xs : List Entry) (y : Entry) (rest : List Entry) (last : End) (end : Option End) → ShipTask setting block stop xs (Some last) → ShipTask setting block stop (xs ++ y ∷ rest) end → ⊥
ship_once setting block stop xs y rest last end (inl (objects, own, ships, run, how)) (inl (others, also, also_ships, more, on)) =
    stopped_once (upload block.ulid objects) uploaded stop xs y rest last end own also run how (same_upload setting block block objects others (xs ++ y ∷ rest) also refl ships also_ships more) on
ship_once setting block stop xs y rest last end (inr (inl (cause, none, (nil, how)))) (inl (others, also, ships, more, on)) = not_refused setting block block.body others cause ships none
ship_once setting block stop xs y rest last end (inr (inr (nil, off))) more = absurd (cc (off))
ship_once setting block stop xs y rest last end run (inr (inl (cause, none, (nil, how)))) = middle_not_nil xs y rest nil
ship_once setting block stop xs y rest last end run (inr (inr (nil, off))) = middle_not_nil xs y rest nil

refused_is : (cause : ℕ) (one : End) → (Some one ≡ None) ⊎ (Some one ≡ Some (refused cause)) → one ≡ refused cause
refused_is cause one (inl off) = absurd (cc (off))
refused_is cause one (inr is) = cc (is)

ship_tells : (setting : Setting) (block : Block) (stop : Option ℕ) (xs : List Entry) (one other : End) → ShipTask setting block stop xs (Some one) → ShipTask setting block stop xs (Some other) → one ≡ other
ship_tells setting block stop xs one other (inl (objects, own, ships, run, how)) (inl (others, also, also_ships, more, on)) =
    stopped_tells (upload block.ulid objects) uploaded stop xs one other own also run how (same_upload setting block block objects others xs also refl ships also_ships more) on
ship_tells setting block stop xs one other (inl (objects, own, ships, run, how)) (inr (inl (cause, none, (nil, on)))) = absurd (not_refused setting block block.body objects cause ships none)
ship_tells setting block stop xs one other (inr (inl (cause, none, (nil, how)))) (inl (others, also, ships, more, on)) = absurd (not_refused setting block block.body others cause ships none)
ship_tells setting block stop xs one other (inr (inl (cause, none, (nil, how)))) (inr (inl (also, too, (nil', on)))) =
    refused_is cause one how ∙ ap refused (one_cause setting block block.body cause also none too) ∙ sym (refused_is also other on)
ship_tells setting block stop xs one other (inr (inr (nil, off))) more = absurd (cc (off))
ship_tells setting block stop xs one other run (inr (inr (nil, off))) = absurd (cc (off))

-- ---- queries

query_once : (used : Option Use) (asked : Option Question) (before after later : Holding) (xs : List Entry) (y : Entry) (rest : List Entry) (last : End) (end : Option End)
    → QueryTask used asked before xs (Some last) after → QueryTask used asked before (xs ++ y ∷ rest) end later → ⊥
query_once None asked before after later xs y rest last end run ((nil, how), same) = middle_not_nil xs y rest nil
query_once (Some used) None before after later xs y rest last end run more = run
query_once (Some used) (Some asked) before after later xs y rest last end (own, run, is, left) (also, more, so, right) =
    let made = Some-option_map (λ (call : CallEnd). answered used call.end) own last is in
    comes_once (series_call used.view asked before.cache) (Gives (sources_of used.view.kept)) xs made.0 y rest also (subst (SeriesRun used.view asked before.cache xs) made.1 run) more

query_tells : (used : Option Use) (asked : Option Question) (before after later : Holding) (xs : List Entry) (one other : End)
    → QueryTask used asked before xs (Some one) after → QueryTask used asked before xs (Some other) later → (one ≡ other) × (after ≡ later)
query_tells None asked before after later xs one other ((nil, inl none), left) more = absurd (cc (none))
query_tells None asked before after later xs one other ((nil, inr is), left) ((nil', inl none), right) = absurd (cc (none))
query_tells None asked before after later xs one other ((nil, inr is), left) ((nil', inr so), right) = (cc (is, so), left ∙ sym right)
query_tells (Some used) None before after later xs one other run more = absurd run
query_tells (Some used) (Some asked) before after later xs one other (own, run, is, left) (also, more, so, right) =
    let first = Some-option_map (λ (call : CallEnd). answered used call.end) own one is in
    let second = Some-option_map (λ (call : CallEnd). answered used call.end) also other so in
    let same : first.0 ≡ second.0 =
    call_tells used.view asked before.cache xs first.0 second.0 (subst (SeriesRun used.view asked before.cache xs) first.1 run) (subst (SeriesRun used.view asked before.cache xs) second.1 more) in
    let owns : own ≡ also = first.1 ∙ ap (λ (c : CallEnd). Some c) same ∙ sym second.1 in
    (first.2 ∙ ap (λ (c : CallEnd). answered used c.end) same ∙ sym second.2, left ∙ ap (called_with before) owns ∙ sym right)

part_once : (setting : Setting) (selector : ℕ) (ask : Option Ask) (before after later : Holding) (xs : List Entry) (y : Entry) (rest : List Entry) (last : End) (end : Option End)
    → PartTask setting selector ask before xs (Some last) after → PartTask setting selector ask before (xs ++ y ∷ rest) end later → ⊥
part_once setting selector None before after later xs y rest last end run ((nil, how), same) = middle_not_nil xs y rest nil
part_once setting selector (Some ask) before after later xs y rest last end run more = query_once before.used (question_of setting selector ask) before after later xs y rest last end run more

part_tells : (setting : Setting) (selector : ℕ) (ask : Option Ask) (before after later : Holding) (xs : List Entry) (one other : End)
    → PartTask setting selector ask before xs (Some one) after → PartTask setting selector ask before xs (Some other) later → (one ≡ other) × (after ≡ later)
part_tells setting selector None before after later xs one other ((nil, inl none), left) more = absurd (cc (none))
part_tells setting selector None before after later xs one other ((nil, inr is), left) ((nil', inl none), right) = absurd (cc (none))
part_tells setting selector None before after later xs one other ((nil, inr is), left) ((nil', inr so), right) = (cc (is, so), left ∙ sym right)
part_tells setting selector (Some ask) before after later xs one other run more = query_tells before.used (question_of setting selector ask) before after later xs one other run more

module _ (setting : Setting) where
  -- a task that has come to its end makes no entry more
  pub task_once : (who : Who) (place : ℕ) (w : Work) (held after later : Holding) (xs : List Entry) (y : Entry) (rest : List Entry) (last : End) (end : Option End)
      → TaskRun setting who place w held xs (Some last) after → TaskRun setting who place w held (xs ++ y ∷ rest) end later → ⊥
  task_once who place (Upload ulid stop) held after later xs y rest last end ((block, is, ships), kept) ((other, so, more), keeps) =
      let same : other ≡ block = cc (is, so) in
      ship_once setting block stop xs y rest last end ships (subst (λ (b : Block). ShipTask setting b stop (xs ++ y ∷ rest) end) same more)
  task_once who place (Sync gateway) held after later xs y rest last end (own, run, is, kept) (also, more, so, keeps) =
      let rules = sync_rules setting gateway in
      let made = Some-option_map synced own last is in
      comes_once (sync rules) (IsEnd rules) xs made.0 y rest also (subst (SyncRun rules xs) made.1 run) more
  task_once who place (Compact stop) held after later xs y rest last end ((own, run, how), kept) ((also, more, on), keeps) =
      stopped_once (compaction setting.script.rules) compacted stop xs y rest last end own also run how more on
  task_once who place (Clean stop) held after later xs y rest last end ((own, run, how), kept) ((also, more, on), keeps) =
      stopped_once (cleaning setting.script.rules) cleaned stop xs y rest last end own also run how more on
  task_once who place (Query low high selector) held after later xs y rest last end run more =
      part_once setting selector (ask_to setting who.gateway low high) held after later xs y rest last end run more

  -- the entries of a task tell its end, and what its worker then holds
  pub task_tells : (who : Who) (place : ℕ) (w : Work) (held after later : Holding) (xs : List Entry) (one other : End)
      → TaskRun setting who place w held xs (Some one) after → TaskRun setting who place w held xs (Some other) later → (one ≡ other) × (after ≡ later)
  task_tells who place (Upload ulid stop) held after later xs one other ((block, is, ships), kept) ((block', so, more), keeps) =
      let same : block' ≡ block = cc (is, so) in
      (ship_tells setting block stop xs one other ships (subst (λ (b : Block). ShipTask setting b stop xs (Some other)) same more), kept ∙ sym keeps)
  task_tells who place (Sync gateway) held after later xs one other (own, run, is, kept) (also, more, so, keeps) =
      let rules = sync_rules setting gateway in
      let first = Some-option_map synced own one is in
      let second = Some-option_map synced also other so in
      let same = sync_tells rules xs first.0 second.0 (subst (SyncRun rules xs) first.1 run) (subst (SyncRun rules xs) second.1 more) in
      let owns : own ≡ also = first.1 ∙ ap (λ (s : SyncEnd). Some s) same ∙ sym second.1 in
      (first.2 ∙ ap synced same ∙ sym second.2, kept ∙ ap (synced_with held xs) owns ∙ sym keeps)
  task_tells who place (Compact stop) held after later xs one other ((own, run, how), kept) ((also, more, on), keeps) =
      (stopped_tells (compaction setting.script.rules) compacted stop xs one other own also run how more on, kept ∙ sym keeps)
  task_tells who place (Clean stop) held after later xs one other ((own, run, how), kept) ((also, more, on), keeps) =
      (stopped_tells (cleaning setting.script.rules) cleaned stop xs one other own also run how more on, kept ∙ sym keeps)
  task_tells who place (Query low high selector) held after later xs one other run more = part_tells setting selector (ask_to setting who.gateway low high) held after later xs one other run more

  -- ---- workers

  abbrev pub Did : Who → List Entry → Holding → List Assigned → List Entry → List End → Holding → Type 0
  Did = TasksRun (by_script setting)

  tasks_tell : (who : Who) (all : List Entry) (held : Holding) (tasks : List Assigned) (entries : List Entry) (one other : List End) (last also : Holding)
      → Did who all held tasks entries one last → Did who all held tasks entries other also → length one ≡ length tasks → length other ≡ length tasks → (one ≡ other) × (last ≡ also)
  tasks_tell who all held [] entries one other last also run more full whole = (run.1 ∙ sym more.1, run.2 ∙ sym more.2)
  tasks_tell who all held (own ∷ tasks) entries one other last also (inr (run, none)) more full whole = absurd (omega (arith, full, ap (λ (l : List End). length l) none))
  tasks_tell who all held (own ∷ tasks) entries one other last also (inl run) (inr (more, none)) full whole = absurd (omega (arith, whole, ap (λ (l : List End). length l) none))
  tasks_tell who all held (own ∷ tasks) entries one other last also (inl (made, others, end, later, next, parts, run, is, rest)) (inl (made', others', end', later', next', parts', run', so, rest')) full whole =
      elim (parted made others made' others' (sym parts ∙ parts')) [
        | alike first second ↦
            let ends_same = task_tells who own.place own.task.work held next next' made end end' run (subst (λ (es : List Entry). TaskRun setting who own.place own.task.work held es (Some end') next') (sym first) run') in
            let rests = tasks_tell who all next tasks others later later' last also rest
            (subst (λ (es : List Entry). Did who all next tasks es later' also) (sym second) (subst (λ (h : Holding). Did who all h tasks others' later' also) (sym ends_same.1) rest'))
            (omega (arith, full, ap (λ (l : List End). length l) is)) (omega (arith, whole, ap (λ (l : List End). length l) so)) in
            let joined : end ∷ later ≡ end' ∷ later' = λ i. ends_same.0 i ∷ rests.0 i in
            (is ∙ joined ∙ sym so, rests.1)
        | first_longer y zs first second ↦
            absurd (task_once who own.place own.task.work held next' next made' y zs end' (Some end) run' (subst (λ (es : List Entry). TaskRun setting who own.place own.task.work held es (Some end) next) first run))
        | second_longer y zs first second ↦
            absurd (task_once who own.place own.task.work held next next' made y zs end (Some end') run (subst (λ (es : List Entry). TaskRun setting who own.place own.task.work held es (Some end') next') first run'))
      ]

  pub at_tells : (tasks : List Task) (places : List ℕ) (one other : List Assigned) → TasksAt tasks places one → TasksAt tasks places other → one ≡ other
  at_tells tasks [] one other is so = is ∙ sym so
  at_tells tasks (place ∷ places) [] other is so = absurd is
  at_tells tasks (place ∷ places) (x ∷ one) [] is so = absurd so
  at_tells tasks (place ∷ places) (x ∷ one) (z ∷ other) is so =
      let spots : x.place ≡ z.place = is.0.0 ∙ sym so.0.0 in
      let works : x.task ≡ z.task = cc (is.0.1, so.0.1) in
      let rest = at_tells tasks places one other is.1 so.1 in
      let first : x ≡ z = λ i. record { place = spots i; task = works i } in
      λ i. first i ∷ rest i

  module _ (tasks : List Task) (before : Holdings) (entries : List Entry) (after later : Holdings) where
    abbrev Worked : Holdings → Worker → List End → Type 0
    Worked left = WorkerRun (by_script setting) tasks before entries left

    worker_tells : (worker : Worker) (one other : List End) (run : Worked after worker one) (more : Worked later worker other) → length worker.tasks ≡ length one → length worker.tasks ≡ length other → (one ≡ other) × (run.last ≡ more.last)
    worker_tells worker one other run more full whole =
        let same : run.own ≡ more.own = at_tells tasks worker.tasks run.own more.own run.are more.are in
        let count = tasks_long tasks worker.tasks run.own run.are in
        tasks_tell (who_of worker) entries (holding_of before worker.gateway) run.own (of_seat worker.seat entries) one other run.last more.last run.runs
        (subst (λ (os : List Assigned). Did (who_of worker) entries (holding_of before worker.gateway) os (of_seat worker.seat entries) other more.last) (sym same) more.runs)
        (sym full ∙ sym count) (sym whole ∙ sym count)

    workers_tell : (workers : List Worker) (one other : List (List End)) → AllZip (Worked after) workers one → AllZip (Worked later) workers other → AreDone workers one → AreDone workers other → one ≡ other
    workers_tell [] [] [] all also full whole = refl
    workers_tell [] [] (z ∷ other) all also full whole = absurd also
    workers_tell [] (x ∷ one) other all also full whole = absurd all
    workers_tell (w ∷ ws) [] other all also full whole = absurd all
    workers_tell (w ∷ ws) (x ∷ one) [] all also full whole = absurd also
    workers_tell (w ∷ ws) (x ∷ one) (z ∷ other) all also full whole =
        let first = worker_tells w x z all.0 also.0 (cc (full)) (cc (whole)) in
        let rest = workers_tell ws one other all.1 also.1 (cc (full)) (cc (whole)) in
        λ i. first.0 i ∷ rest i

    by_equal : (gateway own : ℕ) (A : Type 0) → (Some own ≡ Some gateway → A) → (Some own ≢ Some gateway → A) → (b : Bool) → (own == gateway) ≡ b → A
    by_equal gateway own A same differ true is = let e : own ≡ gateway = grind (arith, nat_tests, is) in same (ap (λ (n : ℕ). Some n) e)
    by_equal gateway own A same differ false is = differ (λ so. let e : own ≡ gateway = cc (so) in grind (arith, nat_tests, is, e))

    by_gateway : (gateway : ℕ) (o : Option ℕ) (A : Type 0) → (o ≡ Some gateway → A) → (o ≢ Some gateway → A) → A
    by_gateway gateway None A same differ = differ (λ is. cc (is))
    by_gateway gateway (Some own) A same differ = by_equal gateway own A same differ (own == gateway) refl

    agree : (gateway : ℕ) (workers : List Worker) (one other : List (List End)) → AllZip (Worked after) workers one → AllZip (Worked later) workers other → AreDone workers one → AreDone workers other
        → (All (λ (w : Worker). w.gateway ≢ Some gateway) workers → after gateway ≡ later gateway) → after gateway ≡ later gateway
    agree gateway [] one other all also full whole none = none (All-nil (λ (w : Worker). w.gateway ≢ Some gateway))
    agree gateway (w ∷ ws) [] other all also full whole none = absurd all
    agree gateway (w ∷ ws) (x ∷ one) [] all also full whole none = absurd also
    agree gateway (w ∷ ws) (x ∷ one) (z ∷ other) all also full whole none =
        let first = worker_tells w x z all.0 also.0 (cc (full)) (cc (whole)) in
        by_gateway gateway w.gateway (after gateway ≡ later gateway) (λ is. (all.0).leaves gateway is ∙ first.1 ∙ sym ((also.0).leaves gateway is))
        (λ differ. agree gateway ws one other all.1 also.1 (cc (full)) (cc (whole)) (λ others. none (All-cons (λ (v : Worker). v.gateway ≢ Some gateway) w ws differ others)))

  -- ---- phases

  abbrev pub Works : ℕ → Phase → Holdings → List Entry → List (List End) → Holdings → Type 0
  Works number phase = PhaseRun (by_script setting) phase.tasks (workers_of setting.script number)

  pub phase_tells : (number : ℕ) (phase : Phase) (before : Holdings) (entries : List Entry) (one other : List (List End)) (after later : Holdings) → Works number phase before entries one after → Works number phase before entries other later
      → AreDone (workers_of setting.script number) one → AreDone (workers_of setting.script number) other → (one ≡ other) × (after ≡ later)
  phase_tells number phase before entries one other after later run more full whole = (
    workers_tell phase.tasks before entries after later (workers_of setting.script number) one other run.runs more.runs full whole,
    λ i gateway. agree phase.tasks before entries after later gateway (workers_of setting.script number) one other run.runs more.runs full whole (λ none. run.kept gateway none ∙ sym (more.kept gateway none)) i,
  )

  seats_above : (gateways before : ℕ) (tasks : List Task) (hs : List Hand) → All (λ (n : ℕ). n ≢ 0) (map (λ (w : Worker). w.seat) (workers_from gateways before tasks hs))
  unfolding workers_from
  seats_above gateways before tasks [] = All-nil (λ (n : ℕ). n ≢ 0)
  seats_above gateways before tasks (hand ∷ hs) =
      All-cons (λ (n : ℕ). n ≢ 0) (seats_after before 1) (map (λ (w : Worker). w.seat) (workers_from gateways (seats_after before 1) tasks hs)) (λ is. omega (arith, is)) (seats_above gateways (seats_after before 1) tasks hs)

  above_after : (before : ℕ) (o : Option Phase) → All (λ (n : ℕ). n ≢ 0) (map (λ (w : Worker). w.seat) (workers_after setting.script before o))
  above_after before None = All-nil (λ (n : ℕ). n ≢ 0)
  above_after before (Some phase) = seats_above (gateway_count setting.script.gateways) before phase.tasks (hands_of (gateway_count setting.script.gateways) phase.tasks)

  -- the clock's seat makes none of a phase's own entries
  pub made_above : (number : ℕ) (phase : Phase) (before after : Holdings) (entries : List Entry) (ends : List (List End)) → Works number phase before entries ends after → All (λ (e : Entry). e.seat ≢ 0) entries
  made_above number phase before after entries ends run =
      All-weaker (λ (e : Entry). Contains (map (λ (w : Worker). w.seat) (workers_of setting.script number)) e.seat ⊎ ⊥) (λ (e : Entry). e.seat ≢ 0) (λ e how.
      elim how [
        | inl among ↦ All-contains (λ (n : ℕ). n ≢ 0) (map (λ (w : Worker). w.seat) (workers_of setting.script number)) e.seat (above_after (seats_before setting.script number) (slice_get setting.script.phases number)) among
        | inr none ↦ absurd none
      ]) entries run.seats

  abbrev pub Ran : ℕ → Holdings → List Phase → List Entry → List (List (List End)) → Type 0
  Ran = PhasesRun (by_workers setting)

  pub starts : (number : ℕ) (before : Holdings) (phases : List Phase) (y : Entry) (zs : List Entry) (ends : List (List (List End))) → Ran number before phases (y ∷ zs) ends → y.seat ≡ 0
  starts number before [] y zs ends run = absurd (cc (run.0))
  starts number before (phase ∷ phases) y zs ends (inl none) = absurd (cc (none.0))
  starts number before (phase ∷ phases) y zs ends (inr (clock, made, others, first, later, after, parts, begins, run, are, go)) =
      let same : y ≡ clock = cc (parts) in ap (λ (e : Entry). e.seat) same ∙ begins.seat

  -- a phase's entries end where the next phase begins
  pub no_further : (number : ℕ) (phase : Phase) (before after later : Holdings) (phases : List Phase) (xs : List Entry) (y : Entry) (zs ys made others : List Entry) (ends : List (List End)) (more : List (List (List End)))
      → made ≡ xs ++ y ∷ zs → ys ≡ y ∷ zs ++ others → Works number phase before made ends after → Ran (number + 1) later phases ys more → ⊥
  no_further number phase before after later phases xs y zs ys made others ends more is so run go =
      within (λ (e : Entry). e.seat ≢ 0) xs y zs (subst (All (λ (e : Entry). e.seat ≢ 0)) is (made_above number phase before after made ends run))
      (starts (number + 1) later phases y (zs ++ others) more (subst (λ (es : List Entry). Ran (number + 1) later phases es more) so go))

  pub phases_tell : (number : ℕ) (before : Holdings) (done left others_left : List Phase) (entries : List Entry) (told untold also more : List (List (List End)))
      → Ran number before (done ++ left) entries (told ++ untold) → Ran number before (done ++ others_left) entries (also ++ more)
      → AreFinished (by_workers setting) number done told → AreFinished (by_workers setting) number done also → told ≡ also
  phases_tell number before [] left others_left entries told untold also more run on full whole = full ∙ sym whole
  phases_tell number before (phase ∷ done) left others_left entries [] untold also more run on full whole = absurd full
  phases_tell number before (phase ∷ done) left others_left entries (x ∷ told) untold [] more run on full whole = absurd whole
  phases_tell number before (phase ∷ done) left others_left entries (x ∷ told) untold (z ∷ also) more (inl none) on full whole = absurd (cc (none.1))
  phases_tell number before (phase ∷ done) left others_left entries (x ∷ told) untold (z ∷ also) more (inr run) (inl none) full whole = absurd (cc (none.1))
  phases_tell number before (phase ∷ done) left others_left entries (x ∷ told) untold (z ∷ also) more (inr (clock, made, others, first, later, after, parts, begins, run, are, go)) (inr (clock', made', others', first', later', after', parts', begins', run', are', go')) full whole =
      let one : x ≡ first = cc (are) in
      let rest : told ++ untold ≡ later = cc (are) in
      let one' : z ≡ first' = cc (are') in
      let rest' : also ++ more ≡ later' = cc (are') in
      elim (parted made others made' others' (cc (parts, parts'))) [
        | alike same same' ↦
            let phases = phase_tells number phase before made x z after after' (subst (λ (es : List (List End)). Works number phase before made es after) (sym one) run)
            (subst (λ (es : List (List End)). Works number phase before made es after') (sym one') (subst (λ (m : List Entry). Works number phase before m first' after') (sym same) run')) full.0 whole.0 in
            let laters = phases_tell (number + 1) after done left others_left others told untold also more (subst (λ (es : List (List (List End))). Ran (number + 1) after (done ++ left) others es) (sym rest) go)
            (subst (λ (es : List (List (List End))). Ran (number + 1) after (done ++ others_left) others es) (sym rest')
            (subst (λ (h : Holdings). Ran (number + 1) h (done ++ others_left) others later') (sym phases.1) (subst (λ (es : List Entry). Ran (number + 1) after' (done ++ others_left) es later') (sym same') go'))) full.1 whole.1 in
            λ i. phases.0 i ∷ laters i
        | first_longer y zs is so ↦ absurd (no_further number phase before after after' (done ++ others_left) made' y zs others' made others first later' is so run go')
        | second_longer y zs is so ↦ absurd (no_further number phase before after' after (done ++ left) made y zs others made' others' first' later is so run' go)
      ]

  no_more : (journal : List Entry) (ends : List (List (List End))) → Ran 0 none_held setting.script.phases journal ends → Ran 0 none_held (setting.script.phases ++ []) journal (ends ++ [])
  no_more journal ends run =
      subst (λ (phases : List Phase). Ran 0 none_held phases journal (ends ++ [])) (sym (append-nil setting.script.phases))
      (subst (λ (es : List (List (List End))). Ran 0 none_held setting.script.phases journal es) (sym (append-nil ends)) run)

  pub ends_tell : (journal : List Entry) (one other : List (List (List End))) → IsRunOf setting journal one → IsRunOf setting journal other → IsFinished setting one → IsFinished setting other → one ≡ other
  ends_tell journal one other run more full whole =
      phases_tell 0 none_held setting.script.phases [] [] journal one [] other [] (no_more journal one run.phases) (no_more journal other more.phases) full whole

  pub begun_tell : (journal : List Entry) (done left : List Phase) (one other more others : List (List (List End))) → setting.script.phases ≡ done ++ left → IsRunOf setting journal (one ++ more) → IsRunOf setting journal (other ++ others)
      → AreFinished (by_workers setting) 0 done one → AreFinished (by_workers setting) 0 done other → one ≡ other
  begun_tell journal done left one other more others are run on full whole =
      phases_tell 0 none_held done left left journal one more other others (subst (λ (phases : List Phase). Ran 0 none_held phases journal (one ++ more)) are run.phases)
      (subst (λ (phases : List Phase). Ran 0 none_held phases journal (other ++ others)) are on.phases) full whole
