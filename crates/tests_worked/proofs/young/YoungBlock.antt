-- Both runs of the script of a young block.
use Rattle.std.proofs.Common.{◌≡◌, ◌≢◌, inl, inr, ℕ, zero, suc, ◌+◌, ◌^◌, ◌<◌, pos, List, [], ◌∷◌, ◌++◌, length, map, All, Contains, Some, None, refl, sym, ap, subst, lit<, lit≤, append-nil}
use Rattle.std.proofs.lemmas.List.Elements.{All-head, All-from_recursion}
use Rattle.world_core.specs.Operations.{IsLawful, IsReplyTo}
use Rattle.world_core.specs.Moments.{moment_after, last_moment}
use Rattle.world_core.specs.Standing.{stands, Tells, IsHonest}
use Rattle.world_core.specs.Worlds.{IsJournal}
use Rattle.world_core.specs.declared.entry.Entry.{Entry}
use Rattle.shipper.specs.declared.upload.UploadEnd.TheVariants as shipped
use Rattle.meta_fetcher.specs.declared.sync.SyncEnd.TheVariants as fetched
use Rattle.script_workers.specs.Hands.{hands_of_task, with_hands, hands_from, places_from, workers_from, seats_from}
use Rattle.script_core.specs.Workers.{workers_of}
use Rattle.script_workers.specs.declared.task.Task.{Task}
use Rattle.script_workers.specs.declared.worker.Worker.{Worker}
use Rattle.script_workers.specs.declared.work.Work.TheVariants as works
use Rattle.world_core.specs.Journals.{of_seat}
use Rattle.lifecycle_core.specs.Conducts.{AreDone, Assigned, PhaseRun, TasksRun, who_of}
use Rattle.lifecycle_core.specs.Holdings.{Holding, Holdings, Use, none_held, nothing_held}
use Rattle.lifecycle_core.specs.Phases.{IsFinished, IsRunOf, by_script, by_workers}
use Rattle.lifecycle_core.specs.Tasks.{End, UploadTask, synced, uploaded}
use Rattle.lifecycle_core.specs.Ways.{PhasesRun}
use Rattle.tests_worked.specs.SmallBlock as small
use Rattle.tests_worked.specs.SmallRuns as runs
use Rattle.tests_worked.specs.Entries.{clock, listed}
use Rattle.tests_worked.specs.YoungBlock as young
use Rattle.tests_worked.proofs.small.Each.{each_of, by_workers_alone}
use Rattle.tests_worked.proofs.small.Bucket.{full, page, nothing_listed, query_told, shows_meta, shows_index, shows_segment, shows_no_mark}
use Rattle.tests_worked.proofs.small.SmallCalls.{all_asked, called_by, empty_query_task, query_task, question, synced_by}
use Rattle.tests_worked.proofs.small.SmallTasks.{upload_task, sync_run, empty_sync_run}

-- ---- the workers

abbrev pub first_gateway : Worker
first_gateway = record { seat = 1; gateway = Some 0; tasks = 0 ∷ 2 ∷ [] }

abbrev pub uploader : Worker
uploader = record { seat = 2; gateway = None; tasks = 1 ∷ [] }

abbrev pub second_gateway : Worker
second_gateway = record { seat = 3; gateway = Some 0; tasks = 0 ∷ 1 ∷ [] }

pub first_workers : workers_of young.script 0 ≡ first_gateway ∷ uploader ∷ []
unfolding hands_of_task with_hands hands_from places_from workers_from seats_from
first_workers = refl

pub second_workers : workers_of young.script 1 ≡ second_gateway ∷ []
unfolding hands_of_task with_hands hands_from places_from workers_from seats_from
second_workers = refl

abbrev sync : Task
sync = record { line = 6; work = works.Sync 0 }

abbrev upload : Task
upload = record { line = 7; work = works.Upload small.a None }

abbrev query : Task
query = record { line = 8; work = works.Query (pos 0) (pos 5000) 0 }

abbrev second_sync : Task
second_sync = record { line = 10; work = works.Sync 0 }

abbrev second_query : Task
second_query = record { line = 11; work = works.Query (pos 0) (pos 5000) 1 }

abbrev at : ℕ → Task → Assigned
at place task = record { place = place; task = task }

abbrev pub first_tasks : List Task
first_tasks = sync ∷ upload ∷ query ∷ []

abbrev pub second_tasks : List Task
second_tasks = second_sync ∷ second_query ∷ []

-- to what the workers of a phase came, by the gateway's view
abbrev pub first_ends : Use → List (List End)
first_ends used = (synced (fetched.View used.view) ∷ young.no_answer used ∷ []) ∷ (uploaded (shipped.Done 3) ∷ []) ∷ []

abbrev pub second_ends : Use → List (List End)
second_ends used = (synced (fetched.View used.view) ∷ young.block_answer used ∷ []) ∷ []

-- what gateways hold where the first one holds this
abbrev pub with_held : Holding → Holdings
with_held held zero = held
with_held held (suc other) = nothing_held

-- ---- a phase, by its gateway's run and its upload

abbrev IsSeat : List ℕ → Entry → Type 0
IsSeat seats e = Contains seats e.seat

pub kept_else : (held : Holding) (views : Holdings) → ((other : ℕ) → views (suc other) ≡ nothing_held) → (other : ℕ) → Some 0 ≢ Some other → with_held held other ≡ views other
kept_else held views none zero differ = absurd (differ refl)
kept_else held views none (suc other) differ = sym (none other)

first_phase : (made uploads : List Entry) (used : Use) → All (IsSeat (1 ∷ 2 ∷ [])) made
    → TasksRun (by_script young.setting) (who_of first_gateway) made nothing_held (at 0 sync ∷ at 2 query ∷ []) (of_seat 1 made) (synced (fetched.View used.view) ∷ young.no_answer used ∷ []) (synced_by used)
    → of_seat 2 made ≡ uploads → UploadTask young.setting small.a None uploads (Some (uploaded (shipped.Done 3)))
    → PhaseRun (by_script young.setting) first_tasks (first_gateway ∷ uploader ∷ []) none_held made (first_ends used) (with_held (synced_by used))
first_phase made uploads used seats run is own = record {
  seats = by_workers_alone (1 ∷ 2 ∷ []) made seats;
  runs = (
    record { own = at 0 sync ∷ at 2 query ∷ []; are = ((refl, refl), ((refl, refl), refl)); last = synced_by used; runs = run; leaves = λ other is. let same : 0 ≡ other = cc in subst (λ (x : ℕ). with_held (synced_by used) x ≡ synced_by used) same refl },
    (
      record {
        own = at 1 upload ∷ [];
        are = ((refl, refl), refl);
        last = nothing_held;
        runs = subst (λ (es : List Entry). TasksRun (by_script young.setting) (who_of uploader) made nothing_held (at 1 upload ∷ []) es (uploaded (shipped.Done 3) ∷ []) nothing_held) (sym is)
            (inl (uploads, [], uploaded (shipped.Done 3), [], nothing_held, sym (append-nil uploads), (own, refl), refl, (refl, refl, refl)));
        leaves = λ gateway is. absurd (cc);
      },
      tt,
    ),
  );
  kept = λ other differ. kept_else (synced_by used) none_held (λ o. refl) other (All-head (λ (w : Worker). w.gateway ≢ Some other) first_gateway (uploader ∷ []) differ);
}

second_phase : (made : List Entry) (before used : Use) → All (IsSeat (3 ∷ [])) made
    → TasksRun (by_script young.setting) (who_of second_gateway) made (synced_by before) (at 0 second_sync ∷ at 1 second_query ∷ []) (of_seat 3 made) (synced (fetched.View used.view) ∷ young.block_answer used ∷ []) (called_by used)
    → PhaseRun (by_script young.setting) second_tasks (second_gateway ∷ []) (with_held (synced_by before)) made (second_ends used) (with_held (called_by used))
second_phase made before used seats run = record {
  seats = by_workers_alone (3 ∷ []) made seats;
  runs = (record { own = at 0 second_sync ∷ at 1 second_query ∷ []; are = ((refl, refl), ((refl, refl), refl)); last = called_by used; runs = run; leaves = λ other is. let same : 0 ≡ other = cc in subst (λ (x : ℕ). with_held (called_by used) x ≡ called_by used) same refl }, tt);
  kept = λ other differ. kept_else (called_by used) (with_held (synced_by before)) (λ o. refl) other (All-head (λ (w : Worker). w.gateway ≢ Some other) second_gateway [] differ);
}

first_done : (used : Use) → AreDone (workers_of young.script 0) (first_ends used)
first_done used = ap (map (λ (w : Worker). length w.tasks)) first_workers

second_done : (used : Use) → AreDone (workers_of young.script 1) (second_ends used)
second_done used = ap (map (λ (w : Worker). length w.tasks)) second_workers

both_phases : (seq : ℕ) (first second : List Entry) (early late : Use)
    → PhaseRun (by_script young.setting) first_tasks (first_gateway ∷ uploader ∷ []) none_held first (first_ends early) (with_held (synced_by early))
    → PhaseRun (by_script young.setting) second_tasks (second_gateway ∷ []) (with_held (synced_by early)) second (second_ends late) (with_held (called_by late))
    → PhasesRun (by_workers young.setting) 0 none_held young.script.phases (clock 1 0 ∷ first ++ clock seq 1_800_000 ∷ second) (young.ends_by early late)
both_phases seq first second early late one other = inr (
  clock 1 0,
  first,
  clock seq 1_800_000 ∷ second,
  first_ends early,
  second_ends late ∷ [],
  with_held (synced_by early),
  refl,
  record { seat = refl; sets = refl },
  subst (λ (ws : List Worker). PhaseRun (by_script young.setting) first_tasks ws none_held first (first_ends early) (with_held (synced_by early))) (sym first_workers) one,
  refl,
  inr (
    clock seq 1_800_000,
    second,
    [],
    second_ends late,
    [],
    with_held (called_by late),
    ap (λ es. clock seq 1_800_000 ∷ es) (sym (append-nil second)),
    record { seat = refl; sets = refl },
    subst (λ (ws : List Worker). PhaseRun (by_script young.setting) second_tasks ws (with_held (synced_by early)) second (second_ends late) (with_held (called_by late))) (sym second_workers) other,
    refl,
    (refl, refl),
  ),
)

pub finished : (early late : Use) → IsFinished young.setting (young.ends_by early late)
finished early late = (first_done early, (second_done late, refl))

-- ---- in the order of the lines

first_lines : PhaseRun (by_script young.setting) first_tasks (first_gateway ∷ uploader ∷ []) none_held young.first_journal (first_ends young.early) (with_held (synced_by young.early))
first_lines = first_phase young.first_journal (runs.upload 3 2 2) young.early
    (All-from_recursion (IsSeat (1 ∷ 2 ∷ [])) young.first_journal ((0, lit< tt, refl), ((1, lit< tt, refl), ((1, lit< tt, refl), ((1, lit< tt, refl), ((1, lit< tt, refl), tt))))))
    (inl (
      listed 2 1 1 [] ∷ [],
      [],
      synced (fetched.View young.early.view),
      young.no_answer young.early ∷ [],
      synced_by young.early,
      refl,
      (Some (fetched.View young.early.view), empty_sync_run 2 1 1, refl, refl),
      refl,
      inl ([], [], young.no_answer young.early, [], synced_by young.early, refl, empty_query_task young.early refl (question []), refl, (refl, refl, refl)),
    ))
    refl
    (upload_task young.setting refl 3 2 2)

second_lines : PhaseRun (by_script young.setting) second_tasks (second_gateway ∷ []) (with_held (synced_by young.early)) young.second_journal (second_ends young.late) (with_held (called_by young.late))
second_lines = second_phase young.second_journal young.early young.late
    (All-from_recursion (IsSeat (3 ∷ [])) young.second_journal ((0, lit< tt, refl), ((0, lit< tt, refl), ((0, lit< tt, refl), ((0, lit< tt, refl), ((0, lit< tt, refl), ((0, lit< tt, refl), ((0, lit< tt, refl), ((0, lit< tt, refl), ((0, lit< tt, refl), tt))))))))))
    (inl (
      runs.sync 8 3 1_800_001,
      runs.query 11 3 1_800_004,
      synced (fetched.View young.late.view),
      young.block_answer young.late ∷ [],
      synced_by young.late,
      refl,
      (Some (fetched.View young.late.view), sync_run 8 3 1_800_001 (Some (runs.seen 1_800_001)) refl, refl, refl),
      refl,
      inl (runs.query 11 3 1_800_004, [], young.block_answer young.late, [], called_by young.late, refl, query_task [] all_asked 8 1_800_001 1_800_003 1_800_002 1_800_003 10 11 3 1_800_004, refl, (refl, refl, refl)),
    ))

kept : IsJournal 1 young.journal
kept = record {
  few = lit≤ tt;
  numbered = each_of (λ before e. e.seq ≡ length before + 1) young.journal (refl, (refl, (refl, (refl, (refl, (refl, (refl, (refl, (refl, (refl, (refl, (refl, (refl, (refl, (refl, (refl, tt))))))))))))))));
  lawful = each_of (λ before e. IsLawful e.op) young.journal (lit< tt, (lit≤ tt, (tt, ((lit≤ tt, lit≤ tt), (tt, (tt, (lit< tt, (lit≤ tt, (tt, (tt, (tt, (tt, (tt, (tt, (tt, ((lit≤ tt, lit≤ tt), tt))))))))))))))));
  kinds = each_of (λ before e. IsReplyTo e.op e.reply) young.journal (tt, (tt, (tt, (tt, (tt, (tt, (tt, (tt, (tt, (tt, (tt, (tt, (tt, (tt, (tt, (tt, tt))))))))))))))));
  moments = each_of (λ before e. e.moment.ms ≡ moment_after 1 (last_moment before) e.op) young.journal (refl, (refl, (refl, (refl, (refl, (refl, (refl, (refl, (refl, (refl, (refl, (refl, (refl, (refl, (refl, (refl, tt))))))))))))))));
  small = each_of (λ before e. e.moment.ms < 2 ^ 48) young.journal (lit< tt, (lit< tt, (lit< tt, (lit< tt, (lit< tt, (lit< tt, (lit< tt, (lit< tt, (lit< tt, (lit< tt, (lit< tt, (lit< tt, (lit< tt, (lit< tt, (lit< tt, (lit< tt, tt))))))))))))))));
}

pub run : IsRunOf young.setting young.journal young.ends
run = record { kept = kept; phases = both_phases 7 young.first_journal young.second_journal young.early young.late first_lines second_lines }

pub honest : IsHonest young.journal
honest = each_of (λ before e. Tells (stands before) e.op e.reply) young.journal (tt, (nothing_listed, (refl, (tt, (tt, (tt, (tt, (page, (shows_no_mark, (shows_meta, query_told full shows_index shows_segment 11 3 1_800_004))))))))))

-- ---- with the upload first

first_turned : PhaseRun (by_script young.setting) first_tasks (first_gateway ∷ uploader ∷ []) none_held young.first_journal_turned (first_ends young.early_turned) (with_held (synced_by young.early_turned))
first_turned = first_phase young.first_journal_turned (runs.upload 2 2 1) young.early_turned
    (All-from_recursion (IsSeat (1 ∷ 2 ∷ [])) young.first_journal_turned ((1, lit< tt, refl), ((1, lit< tt, refl), ((1, lit< tt, refl), ((1, lit< tt, refl), ((0, lit< tt, refl), ((0, lit< tt, refl), ((0, lit< tt, refl), tt))))))))
    (inl (
      runs.sync 6 1 5,
      [],
      synced (fetched.View young.early_turned.view),
      young.no_answer young.early_turned ∷ [],
      synced_by young.early_turned,
      refl,
      (Some (fetched.View young.early_turned.view), sync_run 6 1 5 None refl, refl, refl),
      refl,
      inl ([], [], young.no_answer young.early_turned, [], synced_by young.early_turned, refl, empty_query_task young.early_turned refl (question []), refl, (refl, refl, refl)),
    ))
    refl
    (upload_task young.setting refl 2 2 1)

second_turned : PhaseRun (by_script young.setting) second_tasks (second_gateway ∷ []) (with_held (synced_by young.early_turned)) young.second_journal_turned (second_ends young.late_turned) (with_held (called_by young.late_turned))
second_turned = second_phase young.second_journal_turned young.early_turned young.late_turned
    (All-from_recursion (IsSeat (3 ∷ [])) young.second_journal_turned ((0, lit< tt, refl), ((0, lit< tt, refl), ((0, lit< tt, refl), ((0, lit< tt, refl), ((0, lit< tt, refl), ((0, lit< tt, refl), ((0, lit< tt, refl), ((0, lit< tt, refl), ((0, lit< tt, refl), tt))))))))))
    (inl (
      runs.sync 10 3 1_800_001,
      runs.query 13 3 1_800_004,
      synced (fetched.View young.late_turned.view),
      young.block_answer young.late_turned ∷ [],
      synced_by young.late_turned,
      refl,
      (Some (fetched.View young.late_turned.view), sync_run 10 3 1_800_001 (Some (runs.seen 1_800_001)) refl, refl, refl),
      refl,
      inl (runs.query 13 3 1_800_004, [], young.block_answer young.late_turned, [], called_by young.late_turned, refl, query_task [] all_asked 10 1_800_001 1_800_003 1_800_002 1_800_003 12 13 3 1_800_004, refl, (refl, refl, refl)),
    ))

kept_turned : IsJournal 1 young.journal_turned
kept_turned = record {
  few = lit≤ tt;
  numbered = each_of (λ before e. e.seq ≡ length before + 1) young.journal_turned (refl, (refl, (refl, (refl, (refl, (refl, (refl, (refl, (refl, (refl, (refl, (refl, (refl, (refl, (refl, (refl, (refl, (refl, tt))))))))))))))))));
  lawful = each_of (λ before e. IsLawful e.op) young.journal_turned (lit< tt, (tt, ((lit≤ tt, lit≤ tt), (tt, (tt, (lit≤ tt, (tt, (tt, (lit< tt, (lit≤ tt, (tt, (tt, (tt, (tt, (tt, (tt, (tt, ((lit≤ tt, lit≤ tt), tt))))))))))))))))));
  kinds = each_of (λ before e. IsReplyTo e.op e.reply) young.journal_turned (tt, (tt, (tt, (tt, (tt, (tt, (tt, (tt, (tt, (tt, (tt, (tt, (tt, (tt, (tt, (tt, (tt, (tt, tt))))))))))))))))));
  moments = each_of (λ before e. e.moment.ms ≡ moment_after 1 (last_moment before) e.op) young.journal_turned (refl, (refl, (refl, (refl, (refl, (refl, (refl, (refl, (refl, (refl, (refl, (refl, (refl, (refl, (refl, (refl, (refl, (refl, tt))))))))))))))))));
  small = each_of (λ before e. e.moment.ms < 2 ^ 48) young.journal_turned (lit< tt, (lit< tt, (lit< tt, (lit< tt, (lit< tt, (lit< tt, (lit< tt, (lit< tt, (lit< tt, (lit< tt, (lit< tt, (lit< tt, (lit< tt, (lit< tt, (lit< tt, (lit< tt, (lit< tt, (lit< tt, tt))))))))))))))))));
}

pub run_turned : IsRunOf young.setting young.journal_turned young.ends_turned
run_turned = record { kept = kept_turned; phases = both_phases 9 young.first_journal_turned young.second_journal_turned young.early_turned young.late_turned first_turned second_turned }

pub honest_turned : IsHonest young.journal_turned
honest_turned = each_of (λ before e. Tells (stands before) e.op e.reply) young.journal_turned (tt, (refl, (tt, (tt, (tt, (page, (shows_no_mark, (shows_meta, (tt, (page, (shows_no_mark, (shows_meta, query_told full shows_index shows_segment 13 3 1_800_004))))))))))))
