-- The run in which a block expires and is deleted under a reader, and the one in which its mark lands too late.
use Rattle.std.proofs.Common.{◌≡◌, ◌+◌, ◌^◌, ◌<◌, inl, inr, ℕ, pos, List, [], ◌∷◌, ◌++◌, length, Some, None, refl, lit<, lit≤}
use Rattle.std.proofs.lemmas.List.Elements.{All-from_recursion}
use Rattle.world_core.specs.Moments.{moment_after, last_moment}
use Rattle.world_core.specs.Operations.{IsLawful, IsReplyTo}
use Rattle.world_core.specs.Standing.{IsHonest, Tells, stands}
use Rattle.world_core.specs.Worlds.{IsJournal}
use Rattle.world_core.specs.declared.entry.Entry.{Entry}
use Rattle.shipper.specs.declared.upload.UploadEnd.TheVariants as shipped
use Rattle.meta_fetcher.specs.declared.sync.SyncEnd.TheVariants as fetched
use Rattle.compactor.specs.declared.compact_end.CompactEnd.TheVariants as compacting
use Rattle.cleaner.specs.declared.clean.CleanEnd.TheVariants as cleaning
use Rattle.store_ranges.specs.Reads.{missing}
use Rattle.store_calls.specs.SeriesCalls.{broke}
use Rattle.store_calls.specs.declared.series_call.SeriesEnd.TheVariants as called
use Rattle.script_workers.specs.Hands.{hands_of_task, with_hands, hands_from, places_from, workers_from, seats_from}
use Rattle.script_workers.specs.declared.work.Work.TheVariants as works
use Rattle.script_core.specs.Workers.{workers_of}
use Rattle.lifecycle_core.specs.Conducts.{PhaseRun}
use Rattle.lifecycle_core.specs.Held.{declared}
use Rattle.lifecycle_core.specs.Holdings.{Holding, none_held}
use Rattle.lifecycle_core.specs.Phases.{IsFinished, IsRunOf, by_script, by_workers}
use Rattle.lifecycle_core.specs.Setting.{Setting}
use Rattle.lifecycle_core.specs.Tasks.{QueryTask, answered, cleaned, compacted, synced, uploaded}
use Rattle.lifecycle_core.specs.Ways.{PhasesRun}
use Rattle.tests_worked.specs.Entries.{clock}
use Rattle.tests_worked.specs.ExpiredBlock as row
use Rattle.tests_worked.specs.OneBlock as one
use Rattle.tests_worked.specs.SmallBlock as small
use Rattle.tests_worked.specs.SmallRuns as runs
use Rattle.tests_worked.proofs.small.Bucket.{page, shows_meta, shows_no_mark}
use Rattle.tests_worked.proofs.small.Each.{each_of}
use Rattle.tests_worked.proofs.expired.ExpiredRounds.{cleaning_run, compaction_run, idle_run}
use Rattle.tests_worked.proofs.expired.LonePhases.{done_by, gateway_at, gateway_phase, goes_on, lone, lone_phase}
use Rattle.tests_worked.proofs.expired.MarkedBucket as bucket
use Rattle.tests_worked.proofs.one.OtherReads.{broken}
use Rattle.tests_worked.proofs.small.SmallCalls.{question, synced_by}
use Rattle.tests_worked.proofs.small.SmallTasks.{sync_run, upload_task}
use Rattle.tests_worked.proofs.young.YoungBlock.{with_held}

-- ---- the workers

pub first_workers : workers_of row.script 0 ≡ lone 1 ∷ []
unfolding hands_of_task with_hands hands_from places_from workers_from seats_from
first_workers = refl

pub second_workers : workers_of row.script 1 ≡ gateway_at 2 ∷ []
unfolding hands_of_task with_hands hands_from places_from workers_from seats_from
second_workers = refl

pub third_workers : workers_of row.script 2 ≡ lone 3 ∷ []
unfolding hands_of_task with_hands hands_from places_from workers_from seats_from
third_workers = refl

pub fourth_workers : workers_of row.script 3 ≡ lone 4 ∷ []
unfolding hands_of_task with_hands hands_from places_from workers_from seats_from
fourth_workers = refl

pub fifth_workers : workers_of row.script 4 ≡ gateway_at 5 ∷ []
unfolding hands_of_task with_hands hands_from places_from workers_from seats_from
fifth_workers = refl

pub hasty_first_workers : workers_of row.hasty_script 0 ≡ lone 1 ∷ []
unfolding hands_of_task with_hands hands_from places_from workers_from seats_from
hasty_first_workers = refl

pub hasty_second_workers : workers_of row.hasty_script 1 ≡ lone 2 ∷ []
unfolding hands_of_task with_hands hands_from places_from workers_from seats_from
hasty_second_workers = refl

pub hasty_third_workers : workers_of row.hasty_script 2 ≡ lone 3 ∷ []
unfolding hands_of_task with_hands hands_from places_from workers_from seats_from
hasty_third_workers = refl

-- ---- the tasks

abbrev held : Holding
held = synced_by row.used

-- the query's one read finds nothing
missed : QueryTask (Some row.used) (Some (question one.selector)) held (row.read ∷ []) (Some (answered row.used (called.Missing 25))) held
missed = (Some (broken (called.Missing 25)), (broke (missing 25) held.cache, (refl, (refl, inr refl)), (refl, refl)), refl, refl)

-- the phase of the upload, in both settings
uploads : (setting : Setting) (line : ℕ) → declared setting.script small.a ≡ Some small.block
    → PhaseRun (by_script setting) (record { line = line; work = works.Upload small.a None } ∷ []) (lone 1 ∷ []) none_held row.upload ((uploaded (shipped.Done 3) ∷ []) ∷ []) none_held
uploads setting line is =
    lone_phase setting (record { line = line; work = works.Upload small.a None }) 1 row.upload (uploaded (shipped.Done 3)) (All-from_recursion (λ (e : Entry). e.seat ≡ 1) row.upload (refl, (refl, (refl, (refl, tt))))) refl none_held (upload_task setting is 2 1 1, refl)

-- ---- the run

abbrev fifth_on : List Entry
fifth_on = clock 24 180_000_100 ∷ (row.read ∷ []) ++ []

abbrev fourth_on : List Entry
fourth_on = clock 16 180_000_000 ∷ row.cleaning_made ++ fifth_on

abbrev third_on : List Entry
third_on = clock 10 1_860_000 ∷ row.compaction ++ fourth_on

abbrev second_on : List Entry
second_on = clock 6 1_800_000 ∷ row.sync ++ third_on

abbrev first_on : List Entry
first_on = clock 1 0 ∷ row.upload ++ second_on

fifth_phases : PhasesRun (by_workers row.setting) 4 (with_held held) ((row.phase 13 180_000_100 (works.Query (pos 0) (pos 5000) 0)) ∷ []) fifth_on (((answered row.used (called.Missing 25) ∷ []) ∷ []) ∷ [])
fifth_phases =
    goes_on row.setting 4 (with_held held) (with_held held) (row.phase 13 180_000_100 (works.Query (pos 0) (pos 5000) 0)) [] (clock 24 180_000_100) (row.read ∷ []) [] ((answered row.used (called.Missing 25) ∷ []) ∷ []) [] (gateway_at 5 ∷ []) fifth_workers (record { seat = refl; sets = refl })
    (gateway_phase row.setting (record { line = 14; work = works.Query (pos 0) (pos 5000) 0 }) 5 (row.read ∷ []) (answered row.used (called.Missing 25)) (All-from_recursion (λ (e : Entry). e.seat ≡ 5) (row.read ∷ []) (refl, tt)) refl (with_held held) held (λ other. refl) missed)
    (refl, refl)

fourth_phases : PhasesRun (by_workers row.setting) 3 (with_held held) ((row.phase 11 180_000_000 (works.Clean None)) ∷ ((row.phase 13 180_000_100 (works.Query (pos 0) (pos 5000) 0)) ∷ [])) fourth_on (((cleaned (cleaning.Done 1 0) ∷ []) ∷ []) ∷ (((answered row.used (called.Missing 25) ∷ []) ∷ []) ∷ []))
fourth_phases =
    goes_on row.setting 3 (with_held held) (with_held held) (row.phase 11 180_000_000 (works.Clean None)) ((row.phase 13 180_000_100 (works.Query (pos 0) (pos 5000) 0)) ∷ []) (clock 16 180_000_000) row.cleaning_made fifth_on ((cleaned (cleaning.Done 1 0) ∷ []) ∷ []) (((answered row.used (called.Missing 25) ∷ []) ∷ []) ∷ []) (lone 4 ∷ []) fourth_workers (record { seat = refl; sets = refl })
    (lone_phase row.setting (record { line = 12; work = works.Clean None }) 4 row.cleaning_made (cleaned (cleaning.Done 1 0)) (All-from_recursion (λ (e : Entry). e.seat ≡ 4) row.cleaning_made (refl, (refl, (refl, (refl, (refl, (refl, (refl, tt)))))))) refl (with_held held)
    ((Some (cleaning.Done 1 0), cleaning_run, inl (refl, λ n no. absurd (cc (no)))), refl))
    fifth_phases

third_phases : PhasesRun (by_workers row.setting) 2 (with_held held) ((row.phase 9 1_860_000 (works.Compact None)) ∷ ((row.phase 11 180_000_000 (works.Clean None)) ∷ (row.phase 13 180_000_100 (works.Query (pos 0) (pos 5000) 0)) ∷ [])) third_on (((compacted (compacting.Done 0 0 1) ∷ []) ∷ []) ∷ (((cleaned (cleaning.Done 1 0) ∷ []) ∷ []) ∷ ((answered row.used (called.Missing 25) ∷ []) ∷ []) ∷ []))
third_phases =
    goes_on row.setting 2 (with_held held) (with_held held) (row.phase 9 1_860_000 (works.Compact None)) ((row.phase 11 180_000_000 (works.Clean None)) ∷ (row.phase 13 180_000_100 (works.Query (pos 0) (pos 5000) 0)) ∷ []) (clock 10 1_860_000) row.compaction fourth_on ((compacted (compacting.Done 0 0 1) ∷ []) ∷ []) (((cleaned (cleaning.Done 1 0) ∷ []) ∷ []) ∷ ((answered row.used (called.Missing 25) ∷ []) ∷ []) ∷ []) (lone 3 ∷ []) third_workers (record { seat = refl; sets = refl })
    (lone_phase row.setting (record { line = 10; work = works.Compact None }) 3 row.compaction (compacted (compacting.Done 0 0 1)) (All-from_recursion (λ (e : Entry). e.seat ≡ 3) row.compaction (refl, (refl, (refl, (refl, (refl, tt)))))) refl (with_held held)
    ((Some (compacting.Done 0 0 1), compaction_run (record { ms = 86_400_000 }), inl (refl, λ n no. absurd (cc (no)))), refl))
    fourth_phases

second_phases : PhasesRun (by_workers row.setting) 1 none_held ((row.phase 7 1_800_000 (works.Sync 0)) ∷ ((row.phase 9 1_860_000 (works.Compact None)) ∷ (row.phase 11 180_000_000 (works.Clean None)) ∷ (row.phase 13 180_000_100 (works.Query (pos 0) (pos 5000) 0)) ∷ [])) second_on (((synced (fetched.View row.view) ∷ []) ∷ []) ∷ (((compacted (compacting.Done 0 0 1) ∷ []) ∷ []) ∷ ((cleaned (cleaning.Done 1 0) ∷ []) ∷ []) ∷ ((answered row.used (called.Missing 25) ∷ []) ∷ []) ∷ []))
second_phases =
    goes_on row.setting 1 none_held (with_held held) (row.phase 7 1_800_000 (works.Sync 0)) ((row.phase 9 1_860_000 (works.Compact None)) ∷ (row.phase 11 180_000_000 (works.Clean None)) ∷ (row.phase 13 180_000_100 (works.Query (pos 0) (pos 5000) 0)) ∷ []) (clock 6 1_800_000) row.sync third_on ((synced (fetched.View row.view) ∷ []) ∷ []) (((compacted (compacting.Done 0 0 1) ∷ []) ∷ []) ∷ ((cleaned (cleaning.Done 1 0) ∷ []) ∷ []) ∷ ((answered row.used (called.Missing 25) ∷ []) ∷ []) ∷ []) (gateway_at 2 ∷ []) second_workers (record { seat = refl; sets = refl })
    (gateway_phase row.setting (record { line = 8; work = works.Sync 0 }) 2 row.sync (synced (fetched.View row.view)) (All-from_recursion (λ (e : Entry). e.seat ≡ 2) row.sync (refl, (refl, (refl, tt)))) refl none_held held (λ other. refl) (Some (fetched.View row.view), sync_run 7 2 1_800_001 (Some (runs.seen 1_800_001)) refl, refl, refl))
    third_phases

first_phases : PhasesRun (by_workers row.setting) 0 none_held ((row.phase 5 0 (works.Upload small.a None)) ∷ ((row.phase 7 1_800_000 (works.Sync 0)) ∷ (row.phase 9 1_860_000 (works.Compact None)) ∷ (row.phase 11 180_000_000 (works.Clean None)) ∷ (row.phase 13 180_000_100 (works.Query (pos 0) (pos 5000) 0)) ∷ [])) first_on (((uploaded (shipped.Done 3) ∷ []) ∷ []) ∷ (((synced (fetched.View row.view) ∷ []) ∷ []) ∷ ((compacted (compacting.Done 0 0 1) ∷ []) ∷ []) ∷ ((cleaned (cleaning.Done 1 0) ∷ []) ∷ []) ∷ ((answered row.used (called.Missing 25) ∷ []) ∷ []) ∷ []))
first_phases =
    goes_on row.setting 0 none_held none_held (row.phase 5 0 (works.Upload small.a None)) ((row.phase 7 1_800_000 (works.Sync 0)) ∷ (row.phase 9 1_860_000 (works.Compact None)) ∷ (row.phase 11 180_000_000 (works.Clean None)) ∷ (row.phase 13 180_000_100 (works.Query (pos 0) (pos 5000) 0)) ∷ []) (clock 1 0) row.upload second_on ((uploaded (shipped.Done 3) ∷ []) ∷ []) (((synced (fetched.View row.view) ∷ []) ∷ []) ∷ ((compacted (compacting.Done 0 0 1) ∷ []) ∷ []) ∷ ((cleaned (cleaning.Done 1 0) ∷ []) ∷ []) ∷ ((answered row.used (called.Missing 25) ∷ []) ∷ []) ∷ []) (lone 1 ∷ []) first_workers (record { seat = refl; sets = refl })
    (uploads row.setting 6 refl)
    second_phases

phases : PhasesRun (by_workers row.setting) 0 none_held row.script.phases row.journal row.ends
phases = first_phases

pub kept : IsJournal 1 row.journal
kept = record {
  few = lit≤ tt;
  numbered = each_of (λ before e. e.seq ≡ length before + 1) row.journal (refl, (refl, (refl, (refl, (refl, (refl, (refl, (refl, (refl, (refl, (refl, (refl, (refl, (refl, (refl, (refl, (refl, (refl, (refl, (refl, (refl, (refl, (refl, (refl, (refl, tt)))))))))))))))))))))))));
  lawful = each_of (λ before e. IsLawful e.op) row.journal (lit< tt, (tt, ((lit≤ tt, lit≤ tt), (tt, (tt, (lit< tt, (lit≤ tt, (tt, (tt, (lit< tt, (lit≤ tt, (tt, (tt, (tt, (tt, (lit< tt, (lit≤ tt, (tt, (lit≤ tt, (tt, ((lit≤ tt, lit≤ tt), (tt, (tt, (lit< tt, (tt, tt)))))))))))))))))))))))));
  kinds = each_of (λ before e. IsReplyTo e.op e.reply) row.journal (tt, (tt, (tt, (tt, (tt, (tt, (tt, (tt, (tt, (tt, (tt, (tt, (tt, (tt, (tt, (tt, (tt, (tt, (tt, (tt, (tt, (tt, (tt, (tt, (tt, tt)))))))))))))))))))))))));
  moments = each_of (λ before e. e.moment.ms ≡ moment_after 1 (last_moment before) e.op) row.journal (refl, (refl, (refl, (refl, (refl, (refl, (refl, (refl, (refl, (refl, (refl, (refl, (refl, (refl, (refl, (refl, (refl, (refl, (refl, (refl, (refl, (refl, (refl, (refl, (refl, tt)))))))))))))))))))))))));
  small = each_of (λ before e. e.moment.ms < 2 ^ 48) row.journal (lit< tt, (lit< tt, (lit< tt, (lit< tt, (lit< tt, (lit< tt, (lit< tt, (lit< tt, (lit< tt, (lit< tt, (lit< tt, (lit< tt, (lit< tt, (lit< tt, (lit< tt, (lit< tt, (lit< tt, (lit< tt, (lit< tt, (lit< tt, (lit< tt, (lit< tt, (lit< tt, (lit< tt, (lit< tt, tt)))))))))))))))))))))))));
}

pub run : IsRunOf row.setting row.journal row.ends
run = record { kept = kept; phases = phases }

pub finished : IsFinished row.setting row.ends
finished = (done_by (workers_of row.script 0) (lone 1) (uploaded (shipped.Done 3)) first_workers refl, (done_by (workers_of row.script 1) (gateway_at 2) (synced (fetched.View row.view)) second_workers refl, (done_by (workers_of row.script 2) (lone 3) (compacted (compacting.Done 0 0 1)) third_workers refl, (done_by (workers_of row.script 3) (lone 4) (cleaned (cleaning.Done 1 0)) fourth_workers refl, (done_by (workers_of row.script 4) (gateway_at 5) (answered row.used (called.Missing 25)) fifth_workers refl, refl)))))

pub honest : IsHonest row.journal
honest = each_of (λ before e. Tells (stands before) e.op e.reply) row.journal (tt, (refl, (tt, (tt, (tt, (tt, (page, (shows_no_mark, (shows_meta, (tt, (page, (shows_no_mark, (shows_meta, (shows_no_mark, (tt, (tt, (bucket.page, (bucket.shows_mark, (bucket.names, (tt, (tt, (tt, (tt, (tt, (bucket.shows_nothing, tt)))))))))))))))))))))))))

-- ---- where marks have to land at once

abbrev hasty_third_on : List Entry
hasty_third_on = clock 10 1_860_000 ∷ row.compaction ++ []

abbrev hasty_second_on : List Entry
hasty_second_on = clock 6 1_800_000 ∷ row.sync ++ hasty_third_on

abbrev hasty_first_on : List Entry
hasty_first_on = clock 1 0 ∷ row.upload ++ hasty_second_on

hasty_third_phases : PhasesRun (by_workers row.hasty) 2 none_held ((row.phase 8 1_860_000 (works.Compact None)) ∷ []) hasty_third_on (((compacted (compacting.Done 0 0 1) ∷ []) ∷ []) ∷ [])
hasty_third_phases =
    goes_on row.hasty 2 none_held none_held (row.phase 8 1_860_000 (works.Compact None)) [] (clock 10 1_860_000) row.compaction [] ((compacted (compacting.Done 0 0 1) ∷ []) ∷ []) [] (lone 3 ∷ []) hasty_third_workers (record { seat = refl; sets = refl })
    (lone_phase row.hasty (record { line = 9; work = works.Compact None }) 3 row.compaction (compacted (compacting.Done 0 0 1)) (All-from_recursion (λ (e : Entry). e.seat ≡ 3) row.compaction (refl, (refl, (refl, (refl, (refl, tt)))))) refl none_held
    ((Some (compacting.Done 0 0 1), compaction_run (record { ms = 4 }), inl (refl, λ n no. absurd (cc (no)))), refl))
    (refl, refl)

hasty_second_phases : PhasesRun (by_workers row.hasty) 1 none_held ((row.phase 6 1_800_000 (works.Clean None)) ∷ ((row.phase 8 1_860_000 (works.Compact None)) ∷ [])) hasty_second_on (((cleaned (cleaning.Done 0 0) ∷ []) ∷ []) ∷ (((compacted (compacting.Done 0 0 1) ∷ []) ∷ []) ∷ []))
hasty_second_phases =
    goes_on row.hasty 1 none_held none_held (row.phase 6 1_800_000 (works.Clean None)) ((row.phase 8 1_860_000 (works.Compact None)) ∷ []) (clock 6 1_800_000) row.sync hasty_third_on ((cleaned (cleaning.Done 0 0) ∷ []) ∷ []) (((compacted (compacting.Done 0 0 1) ∷ []) ∷ []) ∷ []) (lone 2 ∷ []) hasty_second_workers (record { seat = refl; sets = refl })
    (lone_phase row.hasty (record { line = 7; work = works.Clean None }) 2 row.sync (cleaned (cleaning.Done 0 0)) (All-from_recursion (λ (e : Entry). e.seat ≡ 2) row.sync (refl, (refl, (refl, tt)))) refl none_held
    ((Some (cleaning.Done 0 0), idle_run (record { ms = 4 }), inl (refl, λ n no. absurd (cc (no)))), refl))
    hasty_third_phases

hasty_first_phases : PhasesRun (by_workers row.hasty) 0 none_held ((row.phase 4 0 (works.Upload small.a None)) ∷ ((row.phase 6 1_800_000 (works.Clean None)) ∷ (row.phase 8 1_860_000 (works.Compact None)) ∷ [])) hasty_first_on (((uploaded (shipped.Done 3) ∷ []) ∷ []) ∷ (((cleaned (cleaning.Done 0 0) ∷ []) ∷ []) ∷ ((compacted (compacting.Done 0 0 1) ∷ []) ∷ []) ∷ []))
hasty_first_phases =
    goes_on row.hasty 0 none_held none_held (row.phase 4 0 (works.Upload small.a None)) ((row.phase 6 1_800_000 (works.Clean None)) ∷ (row.phase 8 1_860_000 (works.Compact None)) ∷ []) (clock 1 0) row.upload hasty_second_on ((uploaded (shipped.Done 3) ∷ []) ∷ []) (((cleaned (cleaning.Done 0 0) ∷ []) ∷ []) ∷ ((compacted (compacting.Done 0 0 1) ∷ []) ∷ []) ∷ []) (lone 1 ∷ []) hasty_first_workers (record { seat = refl; sets = refl })
    (uploads row.hasty 5 refl)
    hasty_second_phases

hasty_phases : PhasesRun (by_workers row.hasty) 0 none_held row.hasty_script.phases row.hasty_journal row.hasty_ends
hasty_phases = hasty_first_phases

hasty_kept : IsJournal 1 row.hasty_journal
hasty_kept = record {
  few = lit≤ tt;
  numbered = each_of (λ before e. e.seq ≡ length before + 1) row.hasty_journal (refl, (refl, (refl, (refl, (refl, (refl, (refl, (refl, (refl, (refl, (refl, (refl, (refl, (refl, (refl, tt)))))))))))))));
  lawful = each_of (λ before e. IsLawful e.op) row.hasty_journal (lit< tt, (tt, ((lit≤ tt, lit≤ tt), (tt, (tt, (lit< tt, (lit≤ tt, (tt, (tt, (lit< tt, (lit≤ tt, (tt, (tt, (tt, (tt, tt)))))))))))))));
  kinds = each_of (λ before e. IsReplyTo e.op e.reply) row.hasty_journal (tt, (tt, (tt, (tt, (tt, (tt, (tt, (tt, (tt, (tt, (tt, (tt, (tt, (tt, (tt, tt)))))))))))))));
  moments = each_of (λ before e. e.moment.ms ≡ moment_after 1 (last_moment before) e.op) row.hasty_journal (refl, (refl, (refl, (refl, (refl, (refl, (refl, (refl, (refl, (refl, (refl, (refl, (refl, (refl, (refl, tt)))))))))))))));
  small = each_of (λ before e. e.moment.ms < 2 ^ 48) row.hasty_journal (lit< tt, (lit< tt, (lit< tt, (lit< tt, (lit< tt, (lit< tt, (lit< tt, (lit< tt, (lit< tt, (lit< tt, (lit< tt, (lit< tt, (lit< tt, (lit< tt, (lit< tt, tt)))))))))))))));
}

pub hasty_run : IsRunOf row.hasty row.hasty_journal row.hasty_ends
hasty_run = record { kept = hasty_kept; phases = hasty_phases }

pub hasty_finished : IsFinished row.hasty row.hasty_ends
hasty_finished = (done_by (workers_of row.hasty_script 0) (lone 1) (uploaded (shipped.Done 3)) hasty_first_workers refl, (done_by (workers_of row.hasty_script 1) (lone 2) (cleaned (cleaning.Done 0 0)) hasty_second_workers refl, (done_by (workers_of row.hasty_script 2) (lone 3) (compacted (compacting.Done 0 0 1)) hasty_third_workers refl, refl)))
