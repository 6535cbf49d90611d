-- The run of the script of one block.
use Rattle.std.proofs.Common.{◌≡◌, ◌≢◌, inl, inr, ℕ, zero, suc, ◌+◌, ◌^◌, ◌<◌, pos, List, [], ◌∷◌, ◌++◌, length, map, Contains, Some, None, refl, sym, ap, subst, append-nil, lit<, lit≤}
use Rattle.std.specs.List.{All}
use Rattle.std.proofs.lemmas.List.Elements.{All-append, All-head, All-from_recursion}
use Rattle.world_core.specs.Operations.{IsLawful, IsReplyTo}
use Rattle.world_core.specs.Moments.{moment_after, last_moment}
use Rattle.world_core.specs.Standing.{stands, Tells, IsHonest}
use Rattle.world_core.specs.Worlds.{IsJournal}
use Rattle.script_workers.specs.Hands.{hands_of_task, with_hands, hands_from, places_from, workers_from, seats_from}
use Rattle.script_core.specs.Workers.{workers_of}
use Rattle.script_workers.specs.declared.task.Task.{Task}
use Rattle.script_workers.specs.declared.worker.Worker.{Worker}
use Rattle.world_core.specs.Journals.{of_seat}
use Rattle.lifecycle_core.specs.Conducts.{AreDone, Assigned, PhaseRun, TasksRun, who_of}
use Rattle.lifecycle_core.specs.Holdings.{Holding, Holdings, none_held, nothing_held}
use Rattle.lifecycle_core.specs.Phases.{IsFinished, IsRunOf, by_script, by_workers}
use Rattle.lifecycle_core.specs.Tasks.{End, QueryTask, SyncTask, UploadTask, answered, synced, uploaded}
use Rattle.lifecycle_core.specs.Ways.{PhasesRun}
use Rattle.world_core.specs.declared.entry.Entry.{Entry}
use Rattle.shipper.specs.declared.upload.UploadEnd.TheVariants as shipped
use Rattle.meta_fetcher.specs.declared.sync.SyncEnd.TheVariants as fetched
use Rattle.script_workers.specs.declared.work.Work.TheVariants as works
use Rattle.store_calls.specs.declared.series_call.SeriesEnd.{SeriesEnd}
use Rattle.store_calls.specs.declared.series_call.SeriesEnd.TheVariants as called
use Rattle.tests_worked.specs.SmallBlock as small
use Rattle.tests_worked.specs.OneBlock as one
use Rattle.tests_worked.specs.Entries.{clock}
use Rattle.tests_worked.proofs.small.Each.{each_of, by_workers_alone}
use Rattle.tests_worked.proofs.small.Bucket.{full, page, query_told, shows_meta, shows_index, shows_segment, shows_no_mark}
use Rattle.tests_worked.specs.SmallRuns as runs
use Rattle.tests_worked.proofs.small.SmallCalls.{called_by, query_task, question, synced_by, up_asked}
use Rattle.tests_worked.proofs.small.SmallTasks.{upload_task, sync_run}

-- ---- the tasks

-- what the gateway holds after its sync
abbrev pub holding : Holding
holding = synced_by one.used

pub upload_end : UploadTask one.setting small.a None one.upload (Some (uploaded (shipped.Done 3)))
upload_end = upload_task one.setting refl 2 1 1

pub sync_end : SyncTask one.setting 0 nothing_held one.sync (Some (synced (fetched.View one.view))) holding
sync_end = (Some (fetched.View one.view), sync_run 7 2 1_800_001 (Some (runs.seen 1_800_001)) refl, refl, refl)

pub query_end : QueryTask (Some one.used) (Some (question one.selector)) holding one.query (Some (answered one.used (called.Answer (small.up ∷ []) (small.a ∷ [])))) (called_by one.used)
query_end = query_task one.selector up_asked 7 1_800_001 1_800_003 1_800_002 1_800_003 9 10 2 1_800_004

-- ---- the phases

abbrev pub uploader : Worker
uploader = record { seat = 1; gateway = None; tasks = 0 ∷ [] }

abbrev pub gateway : Worker
gateway = record { seat = 2; gateway = Some 0; tasks = 0 ∷ 1 ∷ [] }

pub first_workers : workers_of one.script 0 ≡ uploader ∷ []
unfolding hands_of_task with_hands hands_from places_from workers_from seats_from
first_workers = refl

pub second_workers : workers_of one.script 1 ≡ gateway ∷ []
unfolding hands_of_task with_hands hands_from places_from workers_from seats_from
second_workers = refl

abbrev pub first_tasks : List Task
first_tasks = record { line = 6; work = works.Upload small.a None } ∷ []

abbrev pub second_tasks : List Task
second_tasks = record { line = 8; work = works.Sync 0 } ∷ record { line = 9; work = works.Query (pos 0) (pos 5000) 0 } ∷ []

abbrev pub first_own : List Assigned
first_own = record { place = 0; task = record { line = 6; work = works.Upload small.a None } } ∷ []

abbrev pub second_own : List Assigned
second_own = record { place = 0; task = record { line = 8; work = works.Sync 0 } } ∷ record { place = 1; task = record { line = 9; work = works.Query (pos 0) (pos 5000) 0 } } ∷ []

abbrev pub first_ends : List (List End)
first_ends = (uploaded (shipped.Done 3) ∷ []) ∷ []

-- where the query came to this end
abbrev pub second_ends_by : SeriesEnd → List (List End)
second_ends_by came = (synced (fetched.View one.view) ∷ answered one.used came ∷ []) ∷ []

abbrev pub second_ends : List (List End)
second_ends = second_ends_by (called.Answer (small.up ∷ []) (small.a ∷ []))

-- what gateways hold where the first one holds this
abbrev held_by : Holding → Holdings
held_by held zero = held
held_by held (suc other) = nothing_held

kept_else : (held : Holding) (other : ℕ) → Some 0 ≢ Some other → held_by held other ≡ nothing_held
kept_else held zero differ = absurd (differ refl)
kept_else held (suc other) differ = refl

pub first_phase : PhaseRun (by_script one.setting) first_tasks (uploader ∷ []) none_held one.upload first_ends none_held
first_phase = record {
  seats = by_workers_alone (1 ∷ []) one.upload (All-from_recursion (λ (e : Entry). Contains (1 ∷ []) e.seat) one.upload ((0, lit< tt, refl), ((0, lit< tt, refl), ((0, lit< tt, refl), ((0, lit< tt, refl), tt)))));
  runs = (
    record {
      own = first_own;
      are = ((refl, refl), refl);
      last = nothing_held;
      runs = inl (one.upload, [], uploaded (shipped.Done 3), [], nothing_held, refl, (upload_end, refl), refl, (refl, refl, refl));
      leaves = λ gateway is. absurd (cc);
    },
    tt,
  );
  kept = λ gateway none. refl;
}

pub first_done : AreDone (workers_of one.script 0) first_ends
first_done = ap (map (λ (w : Worker). length w.tasks)) first_workers

-- with these entries of the query, this end of it, and what the gateway holds then
module _ (made : List Entry) (came : SeriesEnd) (held : Holding) (seats : All (λ (e : Entry). Contains (2 ∷ []) e.seat) made) (own : of_seat 2 made ≡ made)
    (asked : QueryTask (Some one.used) (Some (question one.selector)) holding made (Some (answered one.used came)) held) where
  tasks_run : TasksRun (by_script one.setting) (who_of gateway) (one.sync ++ made) nothing_held second_own (of_seat 2 (one.sync ++ made)) (synced (fetched.View one.view) ∷ answered one.used came ∷ []) held
  tasks_run = subst (λ (es : List Entry). TasksRun (by_script one.setting) (who_of gateway) (one.sync ++ made) nothing_held second_own (one.sync ++ es) (synced (fetched.View one.view) ∷ answered one.used came ∷ []) held) (sym own) (inl (
    one.sync,
    made,
    synced (fetched.View one.view),
    answered one.used came ∷ [],
    holding,
    refl,
    sync_end,
    refl,
    inl (made, [], answered one.used came, [], held, sym (append-nil made), asked, refl, (refl, refl, refl)),
  ))

  second_phase : PhaseRun (by_script one.setting) second_tasks (gateway ∷ []) none_held (one.sync ++ made) (second_ends_by came) (held_by held)
  second_phase = record {
    seats = by_workers_alone (2 ∷ []) (one.sync ++ made) (All-append (λ (e : Entry). Contains (2 ∷ []) e.seat) one.sync made
        (All-from_recursion (λ (e : Entry). Contains (2 ∷ []) e.seat) one.sync ((0, lit< tt, refl), ((0, lit< tt, refl), ((0, lit< tt, refl), tt)))) seats);
    runs = (
      record {
        own = second_own;
        are = ((refl, refl), ((refl, refl), refl));
        last = held;
        runs = tasks_run;
        leaves = λ other is. let same : 0 ≡ other = cc in subst (λ (x : ℕ). held_by held x ≡ held) same refl;
      },
      tt,
    );
    kept = λ other differ. kept_else held other (All-head (λ (w : Worker). w.gateway ≢ Some other) gateway [] differ);
  }

  second_done : AreDone (workers_of one.script 1) (second_ends_by came)
  second_done = ap (map (λ (w : Worker). length w.tasks)) second_workers

  phases : PhasesRun (by_workers one.setting) 0 none_held one.script.phases (clock 1 0 ∷ one.upload ++ clock 6 1_800_000 ∷ one.sync ++ made) (first_ends ∷ second_ends_by came ∷ [])
  phases = inr (
    clock 1 0,
    one.upload,
    clock 6 1_800_000 ∷ one.sync ++ made,
    first_ends,
    second_ends_by came ∷ [],
    none_held,
    refl,
    record { seat = refl; sets = refl },
    subst (λ (ws : List Worker). PhaseRun (by_script one.setting) first_tasks ws none_held one.upload first_ends none_held) (sym first_workers) first_phase,
    refl,
    inr (
      clock 6 1_800_000,
      one.sync ++ made,
      [],
      second_ends_by came,
      [],
      held_by held,
      ap (λ (es : List Entry). clock 6 1_800_000 ∷ one.sync ++ es) (sym (append-nil made)),
      record { seat = refl; sets = refl },
      subst (λ (ws : List Worker). PhaseRun (by_script one.setting) second_tasks ws none_held (one.sync ++ made) (second_ends_by came) (held_by held)) (sym second_workers) second_phase,
      refl,
      (refl, refl),
    ),
  )

  pub run_by : IsJournal 1 (clock 1 0 ∷ one.upload ++ clock 6 1_800_000 ∷ one.sync ++ made) → IsRunOf one.setting (clock 1 0 ∷ one.upload ++ clock 6 1_800_000 ∷ one.sync ++ made) (first_ends ∷ second_ends_by came ∷ [])
  run_by kept = record { kept = kept; phases = phases }

  pub finished_by : IsFinished one.setting (first_ends ∷ second_ends_by came ∷ [])
  finished_by = (first_done, (second_done, refl))

-- ---- the journal

pub kept : IsJournal 1 one.journal
kept = record {
  few = lit≤ tt;
  numbered = each_of (λ before e. e.seq ≡ length before + 1) one.journal (refl, (refl, (refl, (refl, (refl, (refl, (refl, (refl, (refl, (refl, (refl, (refl, (refl, (refl, (refl, tt)))))))))))))));
  lawful = each_of (λ before e. IsLawful e.op) one.journal (lit< tt, (tt, ((lit≤ tt, lit≤ tt), (tt, (tt, (lit< tt, (lit≤ tt, (tt, (tt, (tt, (tt, (tt, (tt, (tt, ((lit≤ tt, lit≤ tt), tt)))))))))))))));
  kinds = each_of (λ before e. IsReplyTo e.op e.reply) one.journal (tt, (tt, (tt, (tt, (tt, (tt, (tt, (tt, (tt, (tt, (tt, (tt, (tt, (tt, (tt, tt)))))))))))))));
  moments = each_of (λ before e. e.moment.ms ≡ moment_after 1 (last_moment before) e.op) one.journal (refl, (refl, (refl, (refl, (refl, (refl, (refl, (refl, (refl, (refl, (refl, (refl, (refl, (refl, (refl, tt)))))))))))))));
  small = each_of (λ before e. e.moment.ms < 2 ^ 48) one.journal (lit< tt, (lit< tt, (lit< tt, (lit< tt, (lit< tt, (lit< tt, (lit< tt, (lit< tt, (lit< tt, (lit< tt, (lit< tt, (lit< tt, (lit< tt, (lit< tt, (lit< tt, tt)))))))))))))));
}

query_seats : All (λ (e : Entry). Contains (2 ∷ []) e.seat) one.query
query_seats = All-from_recursion (λ (e : Entry). Contains (2 ∷ []) e.seat) one.query ((0, lit< tt, refl), ((0, lit< tt, refl), ((0, lit< tt, refl), ((0, lit< tt, refl), ((0, lit< tt, refl), ((0, lit< tt, refl), tt))))))

pub run : IsRunOf one.setting one.journal one.ends
run = run_by one.query (called.Answer (small.up ∷ []) (small.a ∷ [])) (called_by one.used) query_seats refl query_end kept

pub finished : IsFinished one.setting one.ends
finished = finished_by one.query (called.Answer (small.up ∷ []) (small.a ∷ [])) (called_by one.used) query_seats refl query_end

pub honest : IsHonest one.journal
honest = each_of (λ before e. Tells (stands before) e.op e.reply) one.journal (tt, (refl, (tt, (tt, (tt, (tt, (page, (shows_no_mark, (shows_meta, query_told full shows_index shows_segment 10 2 1_800_004)))))))))
