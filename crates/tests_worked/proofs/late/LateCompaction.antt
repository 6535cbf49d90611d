-- The run in which a compaction reads late, beside a cleaning.
use Rattle.std.proofs.Common.{◌≡◌, ◌+◌, ◌^◌, ◌<◌, inl, inr, ℕ, List, [], ◌∷◌, ◌++◌, length, map, Contains, Some, None, refl, ap, lit<, lit≤}
use Rattle.std.proofs.lemmas.List.Elements.{All-from_recursion}
use Rattle.world_core.specs.Moments.{moment_after, last_moment}
use Rattle.world_core.specs.Operations.{IsLawful, IsReplyTo}
use Rattle.world_core.specs.Standing.{IsHonest, Tells, stands}
use Rattle.world_core.specs.Worlds.{IsJournal}
use Rattle.world_core.specs.declared.entry.Entry.{Entry}
use Rattle.shipper.specs.declared.upload.UploadEnd.TheVariants as shipped
use Rattle.compactor.specs.declared.compact_end.CompactEnd.TheVariants as compacting
use Rattle.cleaner.specs.declared.clean.CleanEnd.TheVariants as cleaning
use Rattle.script_workers.specs.Hands.{hands_of_task, with_hands, hands_from, places_from, workers_from, seats_from}
use Rattle.script_workers.specs.declared.work.Work.TheVariants as works
use Rattle.script_workers.specs.declared.worker.Worker.{Worker}
use Rattle.script_core.specs.Workers.{workers_of}
use Rattle.lifecycle_core.specs.Conducts.{AreDone, PhaseRun}
use Rattle.lifecycle_core.specs.Holdings.{none_held, nothing_held}
use Rattle.lifecycle_core.specs.Phases.{IsFinished, IsRunOf, by_script, by_workers}
use Rattle.lifecycle_core.specs.Tasks.{cleaned, compacted, uploaded}
use Rattle.lifecycle_core.specs.Ways.{PhasesRun}
use Rattle.tests_worked.specs.CompactedPair as pair
use Rattle.tests_worked.specs.Entries.{clock}
use Rattle.tests_worked.specs.LateCompaction as row
use Rattle.tests_worked.specs.SmallBlock as small
use Rattle.tests_worked.proofs.small.Each.{by_workers_alone, each_of}
use Rattle.tests_worked.proofs.late.LateBucket as bucket
use Rattle.tests_worked.proofs.late.LateRounds.{cleaning_run, first_run, second_run}
use Rattle.tests_worked.proofs.expired.LonePhases.{done_by, goes_on, lone, lone_phase}
use Rattle.tests_worked.proofs.pair.PairBucket.{shows_a_meta as pair_meta, shows_a_unmarked as pair_unmarked, shows_b_meta as pair_b_meta, shows_b_unmarked, shows_b_unmet, two_listed}
use Rattle.tests_worked.proofs.pair.PairMetas.{b_meta_is}
use Rattle.tests_worked.proofs.small.SmallMeta.{meta_is}
use Rattle.tests_worked.proofs.small.SmallTasks.{upload_task_by}

-- ---- the workers

-- the worker of the second task of a phase
abbrev second : ℕ → Worker
second seat = record { seat = seat; gateway = None; tasks = 1 ∷ [] }

abbrev pub uploaders : List Worker
uploaders = lone 1 ∷ second 2 ∷ []

abbrev pub side_by_side : List Worker
side_by_side = lone 4 ∷ second 5 ∷ []

pub first_workers : workers_of row.script 0 ≡ uploaders
unfolding hands_of_task with_hands hands_from places_from workers_from seats_from
first_workers = refl

pub second_workers : workers_of row.script 1 ≡ lone 3 ∷ []
unfolding hands_of_task with_hands hands_from places_from workers_from seats_from
second_workers = refl

pub third_workers : workers_of row.script 2 ≡ side_by_side
unfolding hands_of_task with_hands hands_from places_from workers_from seats_from
third_workers = refl

-- ---- the phases

abbrev uploads_made : List Entry
uploads_made = row.a_upload ++ row.b_upload

uploads_run : PhaseRun (by_script row.setting) row.upload_tasks uploaders none_held uploads_made row.upload_ends none_held
uploads_run = record {
  seats = by_workers_alone (1 ∷ 2 ∷ []) uploads_made (All-from_recursion (λ (e : Entry). Contains (1 ∷ 2 ∷ []) e.seat) uploads_made ((0, lit< tt, refl), ((0, lit< tt, refl), ((0, lit< tt, refl), ((0, lit< tt, refl), ((1, lit< tt, refl), ((1, lit< tt, refl), ((1, lit< tt, refl), ((1, lit< tt, refl), tt)))))))));
  runs = (
    record {
      own = record { place = 0; task = record { line = 13; work = works.Upload small.a None } } ∷ [];
      are = ((refl, refl), refl);
      last = nothing_held;
      runs = inl (row.a_upload, [], uploaded (shipped.Done 3), [], nothing_held, refl, (upload_task_by row.setting small.a small.meta meta_is refl row.a_upload (refl, (refl, (refl, (refl, (refl, inr refl))))), refl), refl, (refl, refl, refl));
      leaves = λ gateway is. absurd (cc);
    },
    (
      record {
        own = record { place = 1; task = record { line = 14; work = works.Upload row.b None } } ∷ [];
        are = ((refl, refl), refl);
        last = nothing_held;
        runs = inl (row.b_upload, [], uploaded (shipped.Done 3), [], nothing_held, refl, (upload_task_by row.setting row.b pair.b_meta b_meta_is refl row.b_upload (refl, (refl, (refl, (refl, (refl, inr refl))))), refl), refl, (refl, refl, refl));
        leaves = λ gateway is. absurd (cc);
      },
      tt,
    ),
  );
  kept = λ gateway none. refl;
}

beside_run : PhaseRun (by_script row.setting) row.beside_tasks side_by_side none_held row.both_made row.beside_ends none_held
beside_run = record {
  seats = by_workers_alone (4 ∷ 5 ∷ []) row.both_made (All-from_recursion (λ (e : Entry). Contains (4 ∷ 5 ∷ []) e.seat) row.both_made ((0, lit< tt, refl), ((0, lit< tt, refl), ((0, lit< tt, refl), ((0, lit< tt, refl), ((0, lit< tt, refl), ((0, lit< tt, refl), ((0, lit< tt, refl), ((1, lit< tt, refl), ((1, lit< tt, refl), ((1, lit< tt, refl), ((1, lit< tt, refl), ((1, lit< tt, refl), ((1, lit< tt, refl), ((1, lit< tt, refl), ((1, lit< tt, refl), ((1, lit< tt, refl), ((0, lit< tt, refl), tt))))))))))))))))));
  runs = (
    record {
      own = record { place = 0; task = record { line = 18; work = works.Compact None } } ∷ [];
      are = ((refl, refl), refl);
      last = nothing_held;
      runs = inl (row.second_compaction, [], compacted (compacting.Missing 35), [], nothing_held, refl, ((Some (compacting.Missing 35), second_run, inl (refl, λ n no. absurd (cc (no)))), refl), refl, (refl, refl, refl));
      leaves = λ gateway is. absurd (cc);
    },
    (
      record {
        own = record { place = 1; task = record { line = 19; work = works.Clean None } } ∷ [];
        are = ((refl, refl), refl);
        last = nothing_held;
        runs = inl (row.cleaning_made, [], cleaned (cleaning.Done 1 0), [], nothing_held, refl, ((Some (cleaning.Done 1 0), cleaning_run, inl (refl, λ n no. absurd (cc (no)))), refl), refl, (refl, refl, refl));
        leaves = λ gateway is. absurd (cc);
      },
      tt,
    ),
  );
  kept = λ gateway none. refl;
}

abbrev third_on : List Entry
third_on = clock 18 15_900 ∷ row.both_made ++ []

abbrev second_on : List Entry
second_on = clock 10 8_900 ∷ row.first_compaction ++ third_on

abbrev first_on : List Entry
first_on = clock 1 0 ∷ uploads_made ++ second_on

third_phases : PhasesRun (by_workers row.setting) 2 none_held (row.beside ∷ []) third_on (row.beside_ends ∷ [])
third_phases = goes_on row.setting 2 none_held none_held row.beside [] (clock 18 15_900) row.both_made [] row.beside_ends [] side_by_side third_workers (record { seat = refl; sets = refl }) beside_run (refl, refl)

second_phases : PhasesRun (by_workers row.setting) 1 none_held (row.marking ∷ row.beside ∷ []) second_on (row.marking_ends ∷ row.beside_ends ∷ [])
second_phases =
    goes_on row.setting 1 none_held none_held row.marking (row.beside ∷ []) (clock 10 8_900) row.first_compaction third_on row.marking_ends (row.beside_ends ∷ []) (lone 3 ∷ []) second_workers (record { seat = refl; sets = refl })
    (lone_phase row.setting (record { line = 16; work = works.Compact None }) 3 row.first_compaction (compacted (compacting.Done 0 0 1)) (All-from_recursion (λ (e : Entry). e.seat ≡ 3) row.first_compaction (refl, (refl, (refl, (refl, (refl, (refl, (refl, tt)))))))) refl none_held
    ((Some (compacting.Done 0 0 1), first_run, inl (refl, λ n no. absurd (cc (no)))), refl))
    third_phases

first_phases : PhasesRun (by_workers row.setting) 0 none_held (row.uploads ∷ row.marking ∷ row.beside ∷ []) first_on (row.upload_ends ∷ row.marking_ends ∷ row.beside_ends ∷ [])
first_phases =
    goes_on row.setting 0 none_held none_held row.uploads (row.marking ∷ row.beside ∷ []) (clock 1 0) uploads_made second_on row.upload_ends (row.marking_ends ∷ row.beside_ends ∷ []) uploaders first_workers (record { seat = refl; sets = refl }) uploads_run second_phases

phases : PhasesRun (by_workers row.setting) 0 none_held row.script.phases row.journal row.ends
phases = first_phases

pub kept : IsJournal 1_000 row.journal
kept = record {
  few = lit≤ tt;
  numbered = each_of (λ before e. e.seq ≡ length before + 1) row.journal (refl, (refl, (refl, (refl, (refl, (refl, (refl, (refl, (refl, (refl, (refl, (refl, (refl, (refl, (refl, (refl, (refl, (refl, (refl, (refl, (refl, (refl, (refl, (refl, (refl, (refl, (refl, (refl, (refl, (refl, (refl, (refl, (refl, (refl, (refl, tt)))))))))))))))))))))))))))))))))));
  lawful = each_of (λ before e. IsLawful e.op) row.journal (lit< tt, (tt, ((lit≤ tt, lit≤ tt), (tt, (tt, (tt, ((lit≤ tt, lit≤ tt), (tt, (tt, (lit< tt, (lit≤ tt, (tt, (tt, (tt, (tt, (tt, (tt, (lit< tt, (lit≤ tt, (tt, (tt, (tt, (tt, (tt, ((lit≤ tt, lit≤ tt), (lit≤ tt, (tt, (tt, (tt, (lit≤ tt, (tt, ((lit≤ tt, lit≤ tt), (tt, (tt, (tt, tt)))))))))))))))))))))))))))))))))));
  kinds = each_of (λ before e. IsReplyTo e.op e.reply) row.journal (tt, (tt, (tt, (tt, (tt, (tt, (tt, (tt, (tt, (tt, (tt, (tt, (tt, (tt, (tt, (tt, (tt, (tt, (tt, (tt, (tt, (tt, (tt, (tt, (tt, (tt, (tt, (tt, (tt, (tt, (tt, (tt, (tt, (tt, (tt, tt)))))))))))))))))))))))))))))))))));
  moments = each_of (λ before e. e.moment.ms ≡ moment_after 1_000 (last_moment before) e.op) row.journal (refl, (refl, (refl, (refl, (refl, (refl, (refl, (refl, (refl, (refl, (refl, (refl, (refl, (refl, (refl, (refl, (refl, (refl, (refl, (refl, (refl, (refl, (refl, (refl, (refl, (refl, (refl, (refl, (refl, (refl, (refl, (refl, (refl, (refl, (refl, tt)))))))))))))))))))))))))))))))))));
  small = each_of (λ before e. e.moment.ms < 2 ^ 48) row.journal (lit< tt, (lit< tt, (lit< tt, (lit< tt, (lit< tt, (lit< tt, (lit< tt, (lit< tt, (lit< tt, (lit< tt, (lit< tt, (lit< tt, (lit< tt, (lit< tt, (lit< tt, (lit< tt, (lit< tt, (lit< tt, (lit< tt, (lit< tt, (lit< tt, (lit< tt, (lit< tt, (lit< tt, (lit< tt, (lit< tt, (lit< tt, (lit< tt, (lit< tt, (lit< tt, (lit< tt, (lit< tt, (lit< tt, (lit< tt, (lit< tt, tt)))))))))))))))))))))))))))))))))));
}

pub run : IsRunOf row.setting row.journal row.ends
run = record { kept = kept; phases = phases }

uploads_done : AreDone (workers_of row.script 0) row.upload_ends
uploads_done = ap (map (λ (w : Worker). length w.tasks)) first_workers

beside_done : AreDone (workers_of row.script 2) row.beside_ends
beside_done = ap (map (λ (w : Worker). length w.tasks)) third_workers

pub finished : IsFinished row.setting row.ends
finished = (uploads_done, (done_by (workers_of row.script 1) (lone 3) (compacted (compacting.Done 0 0 1)) second_workers refl, (beside_done, refl)))

pub honest : IsHonest row.journal
honest = each_of (λ before e. Tells (stands before) e.op e.reply) row.journal (tt, (refl, (tt, (tt, (tt, (shows_b_unmet, (tt, (tt, (tt, (tt, (two_listed, (pair_unmarked, (pair_meta, (shows_b_unmarked, (pair_b_meta, (shows_b_unmarked, (tt, (tt, (bucket.both_listed, (bucket.shows_a_unmarked, (bucket.shows_a_meta, (bucket.shows_mark, (bucket.shows_b_meta, (bucket.shows_a_index, (bucket.shows_a_segment, (bucket.both_listed, (bucket.shows_a_unmarked, (bucket.shows_a_meta, (bucket.shows_mark, (bucket.objects_listed, (tt, (tt, (tt, (tt, (bucket.shows_nothing, tt)))))))))))))))))))))))))))))))))))
