-- The run in which two blocks are compacted.
use Rattle.std.proofs.Common.{◌≡◌, ◌+◌, ◌^◌, ◌<◌, inl, inr, List, [], ◌∷◌, ◌++◌, length, map, Contains, Some, None, refl, ap, lit<, lit≤}
use Rattle.std.proofs.lemmas.List.Elements.{All-from_recursion}
use Rattle.world_core.specs.Moments.{moment_after, last_moment}
use Rattle.world_core.specs.Operations.{IsLawful, IsReplyTo}
use Rattle.world_core.specs.Standing.{IsHonest, Tells, stands}
use Rattle.world_core.specs.Worlds.{IsJournal}
use Rattle.world_core.specs.declared.entry.Entry.{Entry}
use Rattle.shipper.specs.declared.upload.UploadEnd.TheVariants as shipped
use Rattle.meta_fetcher.specs.declared.sync.SyncEnd.TheVariants as fetched
use Rattle.compactor.specs.declared.compact_end.CompactEnd.TheVariants as compacting
use Rattle.script_workers.specs.Hands.{hands_of_task, with_hands, hands_from, places_from, workers_from, seats_from}
use Rattle.script_workers.specs.declared.phase.Phase.{Phase}
use Rattle.script_workers.specs.declared.work.Work.TheVariants as works
use Rattle.script_workers.specs.declared.worker.Worker.{Worker}
use Rattle.script_core.specs.Workers.{workers_of}
use Rattle.lifecycle_core.specs.Conducts.{AreDone, PhaseRun}
use Rattle.lifecycle_core.specs.Holdings.{Holding, none_held, nothing_held}
use Rattle.lifecycle_core.specs.Phases.{IsFinished, IsRunOf, by_script, by_workers}
use Rattle.lifecycle_core.specs.Setting.{Setting, setting_of}
use Rattle.lifecycle_core.specs.Tasks.{compacted, synced, uploaded}
use Rattle.lifecycle_core.specs.Ways.{PhasesRun}
use Rattle.tests_worked.specs.CompactedPair as row
use Rattle.tests_worked.specs.Entries.{clock}
use Rattle.tests_worked.specs.SmallBlock as small
use Rattle.tests_worked.proofs.small.Each.{by_workers_alone, each_of}
use Rattle.tests_worked.proofs.expired.LonePhases.{done_by, gateway_at, gateway_phase, goes_on, lone, lone_phase}
use Rattle.tests_worked.proofs.pair.PairBucket.{shows_a_index, shows_a_looked, shows_a_mark, shows_a_meta, shows_a_meta_later, shows_a_segment, shows_a_unmarked, shows_b_index, shows_b_looked, shows_b_mark, shows_b_meta, shows_b_meta_later, shows_b_segment, shows_b_unmarked, shows_b_unmet, shows_n_meta, shows_n_unmarked, shows_n_unmet, three_listed, two_listed}
use Rattle.tests_worked.proofs.pair.PairMetas.{b_meta_is}
use Rattle.tests_worked.proofs.pair.PairRounds.{compaction_run, synced as gateway_synced}
use Rattle.tests_worked.proofs.small.SmallCalls.{synced_by}
use Rattle.tests_worked.proofs.small.SmallTasks.{upload_task, upload_task_by}
use Rattle.tests_worked.proofs.young.YoungBlock.{with_held}

-- ---- the uploads, with any phases behind them

abbrev pub a_uploader : Worker
a_uploader = lone 1

abbrev pub b_uploader : Worker
b_uploader = record { seat = 2; gateway = None; tasks = 1 ∷ [] }

pub two_uploaders : (phases : List Phase) → workers_of (row.script_with phases) 0 ≡ a_uploader ∷ b_uploader ∷ []
unfolding hands_of_task with_hands hands_from places_from workers_from seats_from
two_uploaders phases = refl

abbrev pub setting_with : List Phase → Setting
setting_with phases = setting_of (row.script_with phases)

abbrev pub both_made : List Entry
both_made = row.a_upload ++ row.b_upload

pub uploads_run : (phases : List Phase) → PhaseRun (by_script (setting_with phases)) row.uploads.tasks (a_uploader ∷ b_uploader ∷ []) none_held both_made row.upload_ends none_held
uploads_run phases = record {
  seats = by_workers_alone (1 ∷ 2 ∷ []) both_made (All-from_recursion (λ (e : Entry). Contains (1 ∷ 2 ∷ []) e.seat) both_made ((0, lit< tt, refl), ((0, lit< tt, refl), ((0, lit< tt, refl), ((0, lit< tt, refl), ((1, lit< tt, refl), ((1, lit< tt, refl), ((1, lit< tt, refl), ((1, lit< tt, refl), tt)))))))));
  runs = (
    record {
      own = record { place = 0; task = record { line = 7; work = works.Upload small.a None } } ∷ [];
      are = ((refl, refl), refl);
      last = nothing_held;
      runs = inl (row.a_upload, [], uploaded (shipped.Done 3), [], nothing_held, refl, (upload_task (setting_with phases) refl 2 1 1, refl), refl, (refl, refl, refl));
      leaves = λ gateway is. absurd (cc);
    },
    (
      record {
        own = record { place = 1; task = record { line = 8; work = works.Upload row.b None } } ∷ [];
        are = ((refl, refl), refl);
        last = nothing_held;
        runs = inl (row.b_upload, [], uploaded (shipped.Done 3), [], nothing_held, refl, (upload_task_by (setting_with phases) row.b row.b_meta b_meta_is refl row.b_upload (refl, (refl, (refl, (refl, (refl, inr refl))))), refl), refl, (refl, refl, refl));
        leaves = λ gateway is. absurd (cc);
      },
      tt,
    ),
  );
  kept = λ gateway none. refl;
}

pub uploads_done : (phases : List Phase) → AreDone (workers_of (row.script_with phases) 0) row.upload_ends
uploads_done phases = ap (map (λ (w : Worker). length w.tasks)) (two_uploaders phases)

-- ---- the run

pub second_workers : workers_of row.script 1 ≡ lone 3 ∷ []
unfolding hands_of_task with_hands hands_from places_from workers_from seats_from
second_workers = refl

pub third_workers : workers_of row.script 2 ≡ gateway_at 4 ∷ []
unfolding hands_of_task with_hands hands_from places_from workers_from seats_from
third_workers = refl

abbrev held : Holding
held = synced_by row.used

abbrev third_on : List Entry
third_on = clock 28 1_860_000 ∷ row.sync ++ []

abbrev second_on : List Entry
second_on = clock 10 1_800_000 ∷ row.compaction ++ third_on

abbrev first_on : List Entry
first_on = clock 1 0 ∷ (row.a_upload ++ row.b_upload) ++ second_on

third_phases : PhasesRun (by_workers row.setting) 2 none_held ((row.phase 11 1_860_000 (works.Sync 0)) ∷ []) third_on (((synced (fetched.View row.view) ∷ []) ∷ []) ∷ [])
third_phases =
    goes_on row.setting 2 none_held (with_held held) (row.phase 11 1_860_000 (works.Sync 0)) [] (clock 28 1_860_000) row.sync [] ((synced (fetched.View row.view) ∷ []) ∷ []) [] (gateway_at 4 ∷ []) third_workers (record { seat = refl; sets = refl })
    (gateway_phase row.setting (record { line = 12; work = works.Sync 0 }) 4 row.sync (synced (fetched.View row.view)) (All-from_recursion (λ (e : Entry). e.seat ≡ 4) row.sync (refl, (refl, (refl, (refl, (refl, (refl, (refl, tt)))))))) refl none_held held (λ other. refl) (Some (fetched.View row.view), gateway_synced, refl, refl))
    (refl, refl)

second_phases : PhasesRun (by_workers row.setting) 1 none_held ((row.phase 9 1_800_000 (works.Compact None)) ∷ ((row.phase 11 1_860_000 (works.Sync 0)) ∷ [])) second_on (((compacted (compacting.Done 0 1 0) ∷ []) ∷ []) ∷ (((synced (fetched.View row.view) ∷ []) ∷ []) ∷ []))
second_phases =
    goes_on row.setting 1 none_held none_held (row.phase 9 1_800_000 (works.Compact None)) ((row.phase 11 1_860_000 (works.Sync 0)) ∷ []) (clock 10 1_800_000) row.compaction third_on ((compacted (compacting.Done 0 1 0) ∷ []) ∷ []) (((synced (fetched.View row.view) ∷ []) ∷ []) ∷ []) (lone 3 ∷ []) second_workers (record { seat = refl; sets = refl })
    (lone_phase row.setting (record { line = 10; work = works.Compact None }) 3 row.compaction (compacted (compacting.Done 0 1 0)) (All-from_recursion (λ (e : Entry). e.seat ≡ 3) row.compaction (refl, (refl, (refl, (refl, (refl, (refl, (refl, (refl, (refl, (refl, (refl, (refl, (refl, (refl, (refl, (refl, (refl, tt)))))))))))))))))) refl none_held
    ((Some (compacting.Done 0 1 0), compaction_run, inl (refl, λ n no. absurd (cc (no)))), refl))
    third_phases

first_phases : PhasesRun (by_workers row.setting) 0 none_held (row.uploads ∷ ((row.phase 9 1_800_000 (works.Compact None)) ∷ (row.phase 11 1_860_000 (works.Sync 0)) ∷ [])) first_on ((row.upload_ends) ∷ (((compacted (compacting.Done 0 1 0) ∷ []) ∷ []) ∷ ((synced (fetched.View row.view) ∷ []) ∷ []) ∷ []))
first_phases =
    goes_on row.setting 0 none_held none_held row.uploads ((row.phase 9 1_800_000 (works.Compact None)) ∷ (row.phase 11 1_860_000 (works.Sync 0)) ∷ []) (clock 1 0) (row.a_upload ++ row.b_upload) second_on (row.upload_ends) (((compacted (compacting.Done 0 1 0) ∷ []) ∷ []) ∷ ((synced (fetched.View row.view) ∷ []) ∷ []) ∷ []) (a_uploader ∷ b_uploader ∷ []) (two_uploaders (row.phase 9 1_800_000 (works.Compact None) ∷ row.phase 11 1_860_000 (works.Sync 0) ∷ [])) (record { seat = refl; sets = refl })
    (uploads_run (row.phase 9 1_800_000 (works.Compact None) ∷ row.phase 11 1_860_000 (works.Sync 0) ∷ []))
    second_phases

phases : PhasesRun (by_workers row.setting) 0 none_held row.script.phases row.journal row.ends
phases = first_phases

kept : IsJournal 1 row.journal
kept = record {
  few = lit≤ tt;
  numbered = each_of (λ before e. e.seq ≡ length before + 1) row.journal (refl, (refl, (refl, (refl, (refl, (refl, (refl, (refl, (refl, (refl, (refl, (refl, (refl, (refl, (refl, (refl, (refl, (refl, (refl, (refl, (refl, (refl, (refl, (refl, (refl, (refl, (refl, (refl, (refl, (refl, (refl, (refl, (refl, (refl, (refl, tt)))))))))))))))))))))))))))))))))));
  lawful = each_of (λ before e. IsLawful e.op) row.journal (lit< tt, (tt, ((lit≤ tt, lit≤ tt), (tt, (tt, (tt, ((lit≤ tt, lit≤ tt), (tt, (tt, (lit< tt, (lit≤ tt, (tt, (tt, (tt, (tt, (tt, ((lit≤ tt, lit≤ tt), (tt, ((lit≤ tt, lit≤ tt), (tt, ((lit≤ tt, lit≤ tt), (tt, (tt, (tt, (tt, (tt, (tt, (lit< tt, (lit≤ tt, (tt, (tt, (tt, (tt, (tt, (tt, tt)))))))))))))))))))))))))))))))))));
  kinds = each_of (λ before e. IsReplyTo e.op e.reply) row.journal (tt, (tt, (tt, (tt, (tt, (tt, (tt, (tt, (tt, (tt, (tt, (tt, (tt, (tt, (tt, (tt, (tt, (tt, (tt, (tt, (tt, (tt, (tt, (tt, (tt, (tt, (tt, (tt, (tt, (tt, (tt, (tt, (tt, (tt, (tt, tt)))))))))))))))))))))))))))))))))));
  moments = each_of (λ before e. e.moment.ms ≡ moment_after 1 (last_moment before) e.op) row.journal (refl, (refl, (refl, (refl, (refl, (refl, (refl, (refl, (refl, (refl, (refl, (refl, (refl, (refl, (refl, (refl, (refl, (refl, (refl, (refl, (refl, (refl, (refl, (refl, (refl, (refl, (refl, (refl, (refl, (refl, (refl, (refl, (refl, (refl, (refl, tt)))))))))))))))))))))))))))))))))));
  small = each_of (λ before e. e.moment.ms < 2 ^ 48) row.journal (lit< tt, (lit< tt, (lit< tt, (lit< tt, (lit< tt, (lit< tt, (lit< tt, (lit< tt, (lit< tt, (lit< tt, (lit< tt, (lit< tt, (lit< tt, (lit< tt, (lit< tt, (lit< tt, (lit< tt, (lit< tt, (lit< tt, (lit< tt, (lit< tt, (lit< tt, (lit< tt, (lit< tt, (lit< tt, (lit< tt, (lit< tt, (lit< tt, (lit< tt, (lit< tt, (lit< tt, (lit< tt, (lit< tt, (lit< tt, (lit< tt, tt)))))))))))))))))))))))))))))))))));
}

pub run : IsRunOf row.setting row.journal row.ends
run = record { kept = kept; phases = phases }

pub finished : IsFinished row.setting row.ends
finished = (uploads_done (row.phase 9 1_800_000 (works.Compact None) ∷ row.phase 11 1_860_000 (works.Sync 0) ∷ []), (done_by (workers_of row.script 1) (lone 3) (compacted (compacting.Done 0 1 0)) second_workers refl, (done_by (workers_of row.script 2) (gateway_at 4) (synced (fetched.View row.view)) third_workers refl, refl)))

pub honest : IsHonest row.journal
honest = each_of (λ before e. Tells (stands before) e.op e.reply) row.journal (tt, (refl, (tt, (tt, (tt, (shows_b_unmet, (tt, (tt, (tt, (tt, (two_listed, (shows_a_unmarked, (shows_a_meta, (shows_b_unmarked, (shows_b_meta, (shows_a_index, (shows_a_segment, (shows_b_index, (shows_b_segment, (shows_n_unmet, (tt, (tt, (tt, (shows_a_looked, (tt, (shows_b_looked, (tt, (tt, (three_listed, (shows_a_mark, (shows_a_meta_later, (shows_b_mark, (shows_b_meta_later, (shows_n_unmarked, (shows_n_meta, tt)))))))))))))))))))))))))))))))))))
