-- The run of the script of one block in which its query is asked twice.
use Rattle.std.proofs.Common.{◌≡◌, ◌≢◌, inl, inr, ℕ, ◌+◌, ◌^◌, ◌<◌, pos, List, [], ◌∷◌, ◌++◌, length, map, Contains, Some, None, refl, sym, ap, subst, lit<, lit≤}
use Rattle.std.proofs.lemmas.List.Elements.{All-from_recursion, All-head}
use Rattle.world_core.specs.Operations.{IsLawful, IsReplyTo}
use Rattle.world_core.specs.Moments.{moment_after, last_moment}
use Rattle.world_core.specs.Standing.{stands, Tells, IsHonest}
use Rattle.world_core.specs.Worlds.{IsJournal}
use Rattle.world_core.specs.declared.entry.Entry.{Entry}
use Rattle.shipper.specs.declared.upload.UploadEnd.TheVariants as shipped
use Rattle.meta_fetcher.specs.declared.sync.SyncEnd.TheVariants as fetched
use Rattle.script_workers.specs.Hands.{hands_of_task, with_hands, hands_from, places_from, workers_from, seats_from}
use Rattle.script_core.specs.Workers.{workers_of}
use Rattle.script_workers.specs.declared.task.Task.{Task}
use Rattle.script_workers.specs.declared.work.Work.TheVariants as works
use Rattle.script_workers.specs.declared.worker.Worker.{Worker}
use Rattle.lifecycle_core.specs.Conducts.{AreDone, Assigned, PhaseRun, WorkerRun}
use Rattle.lifecycle_core.specs.Holdings.{Holding, none_held, nothing_held}
use Rattle.lifecycle_core.specs.Phases.{IsFinished, IsRunOf, by_script, by_workers}
use Rattle.lifecycle_core.specs.Tasks.{End, QueryTask, synced, uploaded}
use Rattle.lifecycle_core.specs.Ways.{PhasesRun}
use Rattle.tests_worked.specs.Entries.{clock}
use Rattle.tests_worked.specs.OneBlock as one
use Rattle.tests_worked.specs.QueryAgain as again
use Rattle.tests_worked.specs.SmallBlock as small
use Rattle.tests_worked.specs.SmallRuns as runs
use Rattle.tests_worked.proofs.small.Bucket.{contents_told, chunk_told, full, page, query_told, shows_meta, shows_index, shows_segment, shows_no_mark}
use Rattle.tests_worked.proofs.small.Each.{each_after, each_of, by_workers_alone}
use Rattle.tests_worked.proofs.one.OneBlock.{uploader}
use Rattle.tests_worked.proofs.small.SmallCalls.{answer, call_again, called_by, left_again, query_task, question, synced_by, up_asked}
use Rattle.tests_worked.proofs.small.SmallTasks.{sync_run, upload_task}
use Rattle.tests_worked.proofs.young.YoungBlock.{kept_else, with_held}

-- what the gateway holds in the end
abbrev last : Holding
last = record { used = Some one.used; cache = left_again }

second_query : QueryTask (Some one.used) (Some (question one.selector)) (called_by one.used) again.again (Some again.answer) last
second_query = (Some (answer left_again), call_again one.selector (pos 5000) refl refl up_asked 7 1_800_001 1_800_003 1_800_002 1_800_003 16 2 1_800_010, refl, refl)

-- ---- the phases

abbrev pub worker : Worker
worker = record { seat = 2; gateway = Some 0; tasks = 0 ∷ 1 ∷ 2 ∷ [] }

pub first_workers : workers_of again.script 0 ≡ uploader ∷ []
unfolding hands_of_task with_hands hands_from places_from workers_from seats_from
first_workers = refl

pub second_workers : workers_of again.script 1 ≡ worker ∷ []
unfolding hands_of_task with_hands hands_from places_from workers_from seats_from
second_workers = refl

abbrev pub at : ℕ → Task → Assigned
at place task = record { place = place; task = task }

abbrev pub first_tasks : List Task
first_tasks = record { line = 6; work = works.Upload small.a None } ∷ []

abbrev first_ends : List (List End)
first_ends = (uploaded (shipped.Done 3) ∷ []) ∷ []

abbrev own_ends : List End
own_ends = synced (fetched.View one.view) ∷ again.answer ∷ again.answer ∷ []

first_phase : PhaseRun (by_script again.setting) first_tasks (uploader ∷ []) none_held one.upload first_ends none_held
first_phase = record {
  seats = by_workers_alone (1 ∷ []) one.upload (All-from_recursion (λ (e : Entry). Contains (1 ∷ []) e.seat) one.upload ((0, lit< tt, refl), ((0, lit< tt, refl), ((0, lit< tt, refl), ((0, lit< tt, refl), tt)))));
  runs = (
    record {
      own = at 0 (record { line = 6; work = works.Upload small.a None }) ∷ [];
      are = ((refl, refl), refl);
      last = nothing_held;
      runs = inl (one.upload, [], uploaded (shipped.Done 3), [], nothing_held, refl, (upload_task again.setting refl 2 1 1, refl), refl, (refl, refl, refl));
      leaves = λ gateway is. absurd (cc);
    },
    tt,
  );
  kept = λ gateway none. refl;
}

worker_run : WorkerRun (by_script again.setting) again.tasks none_held again.made (with_held last) worker own_ends
worker_run = record {
  own =
      at 0 (record { line = 8; work = works.Sync 0 })
      ∷ at 1 (record { line = 9; work = works.Query (pos 0) (pos 5000) 0 })
      ∷ at 2 (record { line = 10; work = works.Query (pos 0) (pos 5000) 1 })
      ∷ [];
  are = ((refl, refl), ((refl, refl), ((refl, refl), refl)));
  last = last;
  runs = inl (
    one.sync,
    one.query ++ again.again,
    synced (fetched.View one.view),
    again.answer ∷ again.answer ∷ [],
    synced_by one.used,
    refl,
    (Some (fetched.View one.view), sync_run 7 2 1_800_001 (Some (runs.seen 1_800_001)) refl, refl, refl),
    refl,
    inl (
      one.query,
      again.again,
      again.answer,
      again.answer ∷ [],
      called_by one.used,
      refl,
      query_task one.selector up_asked 7 1_800_001 1_800_003 1_800_002 1_800_003 9 10 2 1_800_004,
      refl,
      inl (again.again, [], again.answer, [], last, refl, second_query, refl, (refl, refl, refl)),
    ),
  );
  leaves = λ other is. let same : 0 ≡ other = cc in subst (λ (x : ℕ). with_held last x ≡ last) same refl;
}

second_phase : PhaseRun (by_script again.setting) again.tasks (worker ∷ []) none_held again.made (own_ends ∷ []) (with_held last)
second_phase = record {
  seats = by_workers_alone (2 ∷ []) again.made (All-from_recursion (λ (e : Entry). Contains (2 ∷ []) e.seat) again.made ((0, lit< tt, refl), ((0, lit< tt, refl), ((0, lit< tt, refl), ((0, lit< tt, refl), ((0, lit< tt, refl), ((0, lit< tt, refl), ((0, lit< tt, refl), ((0, lit< tt, refl), ((0, lit< tt, refl), ((0, lit< tt, refl), ((0, lit< tt, refl), tt))))))))))));
  runs = (worker_run, tt);
  kept = λ other differ. kept_else last none_held (λ o. refl) other (All-head (λ (w : Worker). w.gateway ≢ Some other) worker [] differ);
}

phases : PhasesRun (by_workers again.setting) 0 none_held again.script.phases again.journal again.ends
phases = inr (
  clock 1 0,
  one.upload,
  clock 6 1_800_000 ∷ again.made,
  first_ends,
  (own_ends ∷ []) ∷ [],
  none_held,
  refl,
  record { seat = refl; sets = refl },
  subst (λ (ws : List Worker). PhaseRun (by_script again.setting) first_tasks ws none_held one.upload first_ends none_held) (sym first_workers) first_phase,
  refl,
  inr (
    clock 6 1_800_000,
    again.made,
    [],
    own_ends ∷ [],
    [],
    with_held last,
    refl,
    record { seat = refl; sets = refl },
    subst (λ (ws : List Worker). PhaseRun (by_script again.setting) again.tasks ws none_held again.made (own_ends ∷ []) (with_held last)) (sym second_workers) second_phase,
    refl,
    (refl, refl),
  ),
)

kept : IsJournal 1 again.journal
kept = record {
  few = lit≤ tt;
  numbered = each_of (λ before e. e.seq ≡ length before + 1) again.journal (refl, (refl, (refl, (refl, (refl, (refl, (refl, (refl, (refl, (refl, (refl, (refl, (refl, (refl, (refl, (refl, (refl, tt)))))))))))))))));
  lawful = each_of (λ before e. IsLawful e.op) again.journal (lit< tt, (tt, ((lit≤ tt, lit≤ tt), (tt, (tt, (lit< tt, (lit≤ tt, (tt, (tt, (tt, (tt, (tt, (tt, (tt, ((lit≤ tt, lit≤ tt), (tt, ((lit≤ tt, lit≤ tt), tt)))))))))))))))));
  kinds = each_of (λ before e. IsReplyTo e.op e.reply) again.journal (tt, (tt, (tt, (tt, (tt, (tt, (tt, (tt, (tt, (tt, (tt, (tt, (tt, (tt, (tt, (tt, (tt, tt)))))))))))))))));
  moments = each_of (λ before e. e.moment.ms ≡ moment_after 1 (last_moment before) e.op) again.journal (refl, (refl, (refl, (refl, (refl, (refl, (refl, (refl, (refl, (refl, (refl, (refl, (refl, (refl, (refl, (refl, (refl, tt)))))))))))))))));
  small = each_of (λ before e. e.moment.ms < 2 ^ 48) again.journal (lit< tt, (lit< tt, (lit< tt, (lit< tt, (lit< tt, (lit< tt, (lit< tt, (lit< tt, (lit< tt, (lit< tt, (lit< tt, (lit< tt, (lit< tt, (lit< tt, (lit< tt, (lit< tt, (lit< tt, tt)))))))))))))))));
}

pub run : IsRunOf again.setting again.journal again.ends
run = record { kept = kept; phases = phases }

first_done : AreDone (workers_of again.script 0) first_ends
first_done = ap (map (λ (w : Worker). length w.tasks)) first_workers

second_done : AreDone (workers_of again.script 1) (own_ends ∷ [])
second_done = ap (map (λ (w : Worker). length w.tasks)) second_workers

pub finished : IsFinished again.setting again.ends
finished = (first_done, (second_done, refl))

abbrev before_queries : List Entry
before_queries = clock 1 0 ∷ one.upload ++ clock 6 1_800_000 ∷ one.sync

pub honest : IsHonest again.journal
honest = each_of (λ before e. Tells (stands before) e.op e.reply) again.journal (
  tt,
  (
    refl,
    (
      tt,
      (
        tt,
        (
          tt,
          (
            tt,
            (
              page,
              (
                shows_no_mark,
                (
                  shows_meta,
                  each_after (λ before e. Tells (stands before) e.op e.reply) before_queries one.query again.again (query_told full shows_index shows_segment 10 2 1_800_004) (contents_told full shows_index, (chunk_told full shows_segment, tt)),
                ),
              ),
            ),
          ),
        ),
      ),
    ),
  ),
)
