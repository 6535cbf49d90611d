-- No lawful journal has a second query that reads the symbols again.
use Rattle.std.proofs.Common.{◌≡◌, ◌≢◌, inl, inr, ◌==◌, pos, false, List, [], ◌∷◌, ◌++◌, Contains, Option, Some, None, refl, sym, ◌∙◌, ap, subst, append-nil, arith}
use Rattle.std.specs.List.{All, AllZip}
use Rattle.std.proofs.lemmas.Bool.Decides.{nat_tests}
use Rattle.std.proofs.lemmas.List.Elements.{All-cons, All-nil, All-weaker, filter-append}
use Rattle.base.proofs.Lists.{filter_none}
use Rattle.base.proofs.Membership.{only_member}
use Rattle.world_core.specs.declared.entry.Entry.{Entry}
use Rattle.world_core.proofs.PlanLaws.{same_op}
use Rattle.meta_fetcher.specs.declared.sync.SyncEnd.TheVariants as fetched
use Rattle.store_calls.specs.SeriesCalls.{CallEnd, SeriesRun, series_call}
use Rattle.script_workers.specs.declared.phase.Phase.{Phase}
use Rattle.script_workers.specs.declared.work.Work.TheVariants as works
use Rattle.script_workers.specs.declared.worker.Worker.{Worker}
use Rattle.world_core.specs.Journals.{of_seat}
use Rattle.lifecycle_core.specs.Conducts.{Assigned, PhaseRun, TasksRun, WorkerRun, who_of}
use Rattle.lifecycle_core.specs.Holdings.{Holding, Holdings, none_held, nothing_held}
use Rattle.lifecycle_core.specs.Phases.{IsLawfulJournal, by_script, by_workers}
use Rattle.lifecycle_core.specs.Tasks.{End, TaskRun, synced}
use Rattle.lifecycle_core.specs.Ways.{PhasesRun}
use Rattle.lifecycle_core.proofs.phases.OneEnding.{alike, at_tells, first_longer, parted, second_longer, task_once, task_tells}
use Rattle.tests_worked.specs.OneBlock as one
use Rattle.tests_worked.specs.QueryAgain as again
use Rattle.tests_worked.specs.SmallRuns as runs
use Rattle.tests_worked.proofs.small.Each.{workers_seats}
use Rattle.tests_worked.proofs.one.OneBlock.{uploader}
use Rattle.tests_worked.proofs.QueryAgain.{at, first_tasks, first_workers, second_workers, worker}
use Rattle.tests_worked.proofs.small.SmallCalls.{call_again, called_by, left, query_task, question, synced_by, up_asked}
use Rattle.tests_worked.proofs.small.SmallTasks.{sync_run}

abbrev Ran : List Entry → Holding → List Assigned → List Entry → List End → Holding → Type 0
Ran = TasksRun (by_script again.setting) (who_of worker)

abbrev Does : Assigned → Holding → List Entry → Option End → Holding → Type 0
Does own = TaskRun again.setting (who_of worker) own.place own.task.work

-- behind a task that has come to its end, the entries are those of the next ones
next_task : (all : List Entry) (held next last : Holding) (own : Assigned) (tasks : List Assigned) (made : List Entry) (end : End) (y : Entry) (rest : List Entry) (ends : List End)
    → Does own held made (Some end) next → Ran all held (own ∷ tasks) (made ++ y ∷ rest) ends last → (later : List End) × Ran all next tasks (y ∷ rest) later last
next_task all held next last own tasks made end y rest ends did (inr (run, none)) = absurd (task_once again.setting (who_of worker) own.place own.task.work held next last made y rest end None did run)
next_task all held next last own tasks made end y rest ends did (inl (made', others, end', later, next', parts, run, is, more)) =
    elim (parted made (y ∷ rest) made' others parts) [
      | alike first second ↦
          let same = task_tells again.setting (who_of worker) own.place own.task.work held next next' made end end' did (subst (λ (es : List Entry). Does own held es (Some end') next') (sym first) run) in
          (later, subst (λ (es : List Entry). Ran all next tasks es later last) (sym second) (subst (λ (h : Holding). Ran all h tasks others later last) (sym same.1) more))
      | first_longer z zs first second ↦ absurd (task_once again.setting (who_of worker) own.place own.task.work held next' next made' z zs end' (Some end) run (subst (λ (es : List Entry). Does own held es (Some end) next) first did))
      | second_longer z zs first second ↦ absurd (task_once again.setting (who_of worker) own.place own.task.work held next next' made z zs end (Some end') did (subst (λ (es : List Entry). Does own held es (Some end') next') first run))
    ]

-- ---- the second query

abbrev contents : Entry
contents = runs.contents_read 16 2 1_800_010

abbrev chunk : Entry
chunk = runs.chunk_read 17 2 1_800_011

-- behind the table of contents it reads the chunk
reads_chunk : (rest : List Entry) (end : Option CallEnd) → SeriesRun one.view (question one.selector) left (contents ∷ again.symbols_read ∷ rest) end → chunk.op ≡ again.symbols_read.op
reads_chunk rest None run =
    let known = call_again one.selector (pos 5000) refl refl up_asked 7 1_800_001 1_800_003 1_800_002 1_800_003 16 2 1_800_010 in
    same_op (series_call one.view (question one.selector) left) (contents ∷ []) chunk again.symbols_read [] rest (Some known.0) None known.1 run
reads_chunk rest (Some end) (told, run, is) =
    let known = call_again one.selector (pos 5000) refl refl up_asked 7 1_800_001 1_800_003 1_800_002 1_800_003 16 2 1_800_010 in
    same_op (series_call one.view (question one.selector) left) (contents ∷ []) chunk again.symbols_read [] rest (Some known.0) (Some told) known.1 run

no_symbols : (rest : List Entry) (end : Option CallEnd) → ¬ SeriesRun one.view (question one.selector) left (contents ∷ again.symbols_read ∷ rest) end
no_symbols rest end run = let same = reads_chunk rest end run in cc (same)

abbrev first_query : Assigned
first_query = at 1 (record { line = 9; work = works.Query (pos 0) (pos 5000) 0 })

abbrev second_query : Assigned
second_query = at 2 (record { line = 10; work = works.Query (pos 0) (pos 5000) 1 })

no_second : (all rest : List Entry) (ends : List End) (last : Holding) → ¬ Ran all (called_by one.used) (second_query ∷ []) (contents ∷ again.symbols_read ∷ rest) ends last
no_second all rest ends last (inr (run, none)) = no_symbols rest run.0 run.1
no_second all rest ends last (inl (made, others, end, later, next, parts, run, is, (nil, none, left_is))) =
    let whole : made ≡ contents ∷ again.symbols_read ∷ rest = sym (parts ∙ ap (λ (es : List Entry). made ++ es) nil ∙ append-nil made) in
    no_symbols rest run.0 (subst (λ (es : List Entry). SeriesRun one.view (question one.selector) left es run.0) whole run.1)

-- ---- the gateway's worker

abbrev tasks : List Assigned
tasks = at 0 (record { line = 8; work = works.Sync 0 }) ∷ first_query ∷ second_query ∷ []

no_tasks : (all rest : List Entry) (ends : List End) (last : Holding) → ¬ Ran all nothing_held tasks (one.sync ++ (one.query ++ contents ∷ again.symbols_read ∷ rest)) ends last
no_tasks all rest ends last run =
    let behind_sync = next_task all nothing_held (synced_by one.used) last (at 0 (record { line = 8; work = works.Sync 0 })) (first_query ∷ second_query ∷ []) one.sync (synced (fetched.View one.view)) (runs.contents_read 10 2 1_800_004) (runs.query_rest 10 2 1_800_004 ++ contents ∷ again.symbols_read ∷ rest) ends
    (Some (fetched.View one.view), sync_run 7 2 1_800_001 (Some (runs.seen 1_800_001)) refl, refl, refl) run in
    let behind_query = next_task all (synced_by one.used) (called_by one.used) last first_query (second_query ∷ []) one.query again.answer contents (again.symbols_read ∷ rest) behind_sync.0
    (query_task one.selector up_asked 7 1_800_001 1_800_003 1_800_002 1_800_003 9 10 2 1_800_004) behind_sync.1 in
    no_second all rest behind_query.0 last behind_query.1

abbrev IsOwn : Holding → List Entry → Type 0
IsOwn held entries = (all : List Entry) × (ends : List End) × (last : Holding) × Ran all held tasks entries ends last

second_run : (before after : Holdings) (made : List Entry) (ends : List (List End)) → before 0 ≡ nothing_held → PhaseRun (by_script again.setting) again.tasks (worker ∷ []) before made ends after → IsOwn nothing_held (of_seat 2 made)
second_run before after made ends held run = go ends run.runs
  where
    go : (ends : List (List End)) → AllZip (WorkerRun (by_script again.setting) again.tasks before made after) (worker ∷ []) ends → IsOwn nothing_held (of_seat 2 made)
    go [] runs = absurd runs
    go (own ∷ ends) runs =
        let mine = runs.0 in
        let are = at_tells again.setting again.tasks worker.tasks mine.own tasks mine.are ((refl, refl), ((refl, refl), ((refl, refl), refl))) in (
          made,
          own,
          mine.last,
          subst (λ (h : Holding). Ran made h tasks (of_seat 2 made) own mine.last) held (subst (λ (os : List Assigned). Ran made (before 0) os (of_seat 2 made) own mine.last) are mine.runs),
        )

-- ---- the phases

none_of_two : (made : List Entry) → All (λ (e : Entry). Contains (1 ∷ []) e.seat) made → of_seat 2 made ≡ []
none_of_two made seats = filter_none (λ (e : Entry). e.seat == 2) made
    (All-weaker (λ (e : Entry). Contains (1 ∷ []) e.seat) (λ (e : Entry). (e.seat == 2) ≡ false) (λ e among. let same : 1 ≡ e.seat = only_member 1 e.seat among in grind (arith, nat_tests, same)) made seats)

-- what behind the clock's first entry the second seat did
behind_clock : (first : Entry) (made others entries : List Entry) → first.seat ≡ 0 → entries ≡ first ∷ made ++ others → of_seat 2 made ≡ [] → of_seat 2 entries ≡ of_seat 2 others
behind_clock first made others entries seat parts none =
    let test : (first.seat == 2) ≡ false = grind (arith, nat_tests, seat) in
    let whole : of_seat 2 (first ∷ made ++ others) ≡ of_seat 2 (made ++ others) = rw test refl in
    ap (of_seat 2) parts ∙ whole ∙ filter-append (λ (e : Entry). e.seat == 2) made others ∙ ap (λ (es : List Entry). es ++ of_seat 2 others) none

abbrev second_phase : Phase
second_phase = record { line = 7; moment = record { ms = 1_800_000 }; tasks = again.tasks }

module _ (entries : List Entry) (some : of_seat 2 entries ≢ []) where
  by_second : (others : List Entry) (after : Holdings) (ends : List (List (List End))) → of_seat 2 entries ≡ of_seat 2 others → after 0 ≡ nothing_held → PhasesRun (by_workers again.setting) 1 after (second_phase ∷ []) others ends → IsOwn nothing_held (of_seat 2 entries)
  by_second others after ends same held (inl none) = absurd (some (same ∙ ap (of_seat 2) none.0))
  by_second others after ends same held (inr (first, made, more, own, later, next, parts, begins, run, are, (nil, none))) =
      let test : (first.seat == 2) ≡ false = grind (arith, nat_tests, begins.seat) in
      let whole : of_seat 2 (first ∷ made) ≡ of_seat 2 made = rw test refl in
      let all : others ≡ first ∷ made = parts ∙ ap (λ (es : List Entry). first ∷ made ++ es) nil ∙ ap (λ (es : List Entry). first ∷ es) (append-nil made) in
      subst (IsOwn nothing_held) (sym (same ∙ ap (of_seat 2) all ∙ whole))
      (second_run after next made own held (subst (λ (ws : List Worker). PhaseRun (by_script again.setting) again.tasks ws after made own next) second_workers run))

  of_worker : (ends : List (List (List End))) → PhasesRun (by_workers again.setting) 0 none_held again.script.phases entries ends → IsOwn nothing_held (of_seat 2 entries)
  of_worker ends (inl none) = absurd (some (ap (of_seat 2) none.0))
  of_worker ends (inr (first, made, others, own, later, after, parts, begins, run, are, go)) =
      let mine = subst (λ (ws : List Worker). PhaseRun (by_script again.setting) first_tasks ws none_held made own after) first_workers run in
      let none = none_of_two made (workers_seats (1 ∷ []) made mine.seats) in
      let held = mine.kept 0 (All-cons (λ (w : Worker). w.gateway ≢ Some 0) uploader [] (λ h. cc (h)) (All-nil (λ (w : Worker). w.gateway ≢ Some 0))) in
      by_second others after later (behind_clock first made others entries begins.seat parts none) held go

pub not_lawful : (rest : List Entry) → ¬ IsLawfulJournal again.setting (again.asked_twice ++ rest)
not_lawful rest lawful =
    let own = of_worker (again.asked_twice ++ rest) (λ none. cc (none)) lawful.0 lawful.1.phases in
    no_tasks own.0 (of_seat 2 rest) own.1 own.2 own.3
