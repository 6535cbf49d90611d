-- The run in which a block is deleted while it is uploaded.
use Rattle.std.proofs.Common.{◌≡◌, ◌+◌, ◌^◌, ◌<◌, inl, inr, ℕ, suc, pos, List, [], ◌∷◌, ◌++◌, length, map, Contains, Some, None, refl, sym, ap, subst, lit<, lit≤}
use Rattle.std.specs.Prelude.{drop}
use Rattle.std.proofs.lemmas.List.Elements.{All-from_recursion}
use Rattle.block_keys.specs.KeyText.{key_named, number_of, segment_of}
use Rattle.block_keys.specs.declared.key.Key.{Key}
use Rattle.block_keys.specs.declared.key.Key.TheVariants as key
use Rattle.world_core.specs.Moments.{moment_after, last_moment}
use Rattle.world_core.specs.Operations.{IsLawful, IsReplyTo}
use Rattle.world_core.specs.Plans.{Plan, Runs}
use Rattle.world_core.specs.Standing.{IsHonest, Tells, stands}
use Rattle.world_core.specs.Walks.{ulids_in}
use Rattle.world_core.specs.Worlds.{IsJournal}
use Rattle.world_core.specs.declared.entry.Entry.{Entry}
use Rattle.shipper.specs.declared.upload.UploadEnd.TheVariants as shipped
use Rattle.meta_fetcher.specs.declared.sync.SyncEnd.TheVariants as fetched
use Rattle.cleaner.specs.Cleanings.{CleanRun, deleting, listing, looking, none_deleted, one_partial_more, rules_of, walking}
use Rattle.cleaner.specs.Objects.{objects_of}
use Rattle.cleaner.specs.declared.clean.CleanEnd.{CleanEnd}
use Rattle.cleaner.specs.declared.clean.CleanEnd.TheVariants as cleaning
use Rattle.cleaner.specs.declared.clean_rules.CleanRules.{CleanRules}
use Rattle.store_ranges.specs.Reads.{missing}
use Rattle.store_calls.specs.SeriesCalls.{broke}
use Rattle.store_calls.specs.declared.series_call.SeriesEnd.TheVariants as called
use Rattle.script_workers.specs.Hands.{hands_of_task, with_hands, hands_from, places_from, workers_from, seats_from}
use Rattle.script_workers.specs.declared.work.Work.TheVariants as works
use Rattle.script_workers.specs.declared.worker.Worker.{Worker}
use Rattle.script_core.specs.Workers.{workers_of}
use Rattle.lifecycle_core.specs.Conducts.{AreDone, PhaseRun}
use Rattle.lifecycle_core.specs.Holdings.{Holding, none_held, nothing_held}
use Rattle.lifecycle_core.specs.Phases.{IsFinished, IsRunOf, by_script, by_workers}
use Rattle.lifecycle_core.specs.Tasks.{QueryTask, answered, cleaned, synced, uploaded}
use Rattle.lifecycle_core.specs.Ways.{PhasesRun}
use Rattle.tests_worked.specs.DeletedUpload as row
use Rattle.tests_worked.specs.Entries.{clock}
use Rattle.tests_worked.specs.OneBlock as one
use Rattle.tests_worked.specs.SmallBlock as small
use Rattle.tests_worked.specs.SmallRuns as runs
use Rattle.tests_worked.proofs.deleted.DeletedBucket as bucket
use Rattle.tests_worked.proofs.small.Each.{by_workers_alone, each_of}
use Rattle.tests_worked.proofs.expired.LonePhases.{done_by, gateway_at, gateway_phase, goes_on, lone}
use Rattle.tests_worked.proofs.one.OtherReads.{broken}
use Rattle.tests_worked.proofs.small.SmallCalls.{question, synced_by}
use Rattle.tests_worked.proofs.small.SmallMeta.{a_reads, meta_is}
use Rattle.tests_worked.proofs.small.SmallTasks.{sync_run, upload_task_by}
use Rattle.tests_worked.proofs.young.YoungBlock.{with_held}

-- ---- the cleaning

abbrev rules : CleanRules
rules = rules_of row.rules

listed_are : ulids_in (small.a_text ∷ []) ≡ small.a ∷ []
listed_are = rw a_reads refl

objects_are : objects_of small.a row.objects ≡ key.Meta small.a ∷ key.Segment small.a 1 ∷ key.Index small.a ∷ key.Mark small.a ∷ []
unfolding key_named segment_of number_of
objects_are = refl

-- what is left when the partial is deleted
abbrev then_done : Plan CleanEnd
then_done = looking rules (one_partial_more none_deleted) []

abbrev deletes : List Entry
deletes = drop 1 row.deletion

deletes_made : (more : ℕ) → Runs (walking rules small.a then_done (suc more) []) row.deletion (Some (cleaning.Done 0 1))
deletes_made more = (refl, subst (λ (keys : List Key). Runs (deleting keys then_done) deletes (Some (cleaning.Done 0 1))) (sym objects_are) (refl, (refl, (refl, (refl, (refl, inr refl))))))

abbrev looks : List Entry
looks = drop 1 row.cleaning_made

own_listing : (more : ℕ) → Runs (listing rules (suc more) []) row.cleaning_made (Some (cleaning.Done 0 1))
own_listing more = (refl, subst (λ (ulids : List ℕ). Runs (looking rules none_deleted ulids) looks (Some (cleaning.Done 0 1))) (sym listed_are) (refl, (refl, deletes_made 999_999)))

cleaning_run : CleanRun row.rules row.cleaning_made (Some (cleaning.Done 0 1))
cleaning_run = own_listing 999_999

-- ---- the workers

abbrev cleaner : Worker
cleaner = record { seat = 2; gateway = None; tasks = 1 ∷ [] }

abbrev side_by_side : List Worker
side_by_side = lone 1 ∷ cleaner ∷ []

first_workers : workers_of row.script 0 ≡ side_by_side
unfolding hands_of_task with_hands hands_from places_from workers_from seats_from
first_workers = refl

second_workers : workers_of row.script 1 ≡ gateway_at 3 ∷ []
unfolding hands_of_task with_hands hands_from places_from workers_from seats_from
second_workers = refl

third_workers : workers_of row.script 2 ≡ gateway_at 4 ∷ []
unfolding hands_of_task with_hands hands_from places_from workers_from seats_from
third_workers = refl

-- ---- the phases

beside_run : PhaseRun (by_script row.setting) row.tasks side_by_side none_held row.both_made row.beside_ends none_held
beside_run = record {
  seats = by_workers_alone (1 ∷ 2 ∷ []) row.both_made (All-from_recursion (λ (e : Entry). Contains (1 ∷ 2 ∷ []) e.seat) row.both_made ((0, lit< tt, refl), ((0, lit< tt, refl), ((0, lit< tt, refl), ((1, lit< tt, refl), ((1, lit< tt, refl), ((1, lit< tt, refl), ((1, lit< tt, refl), ((1, lit< tt, refl), ((1, lit< tt, refl), ((1, lit< tt, refl), ((1, lit< tt, refl), ((0, lit< tt, refl), tt)))))))))))));
  runs = (
    record {
      own = record { place = 0; task = record { line = 6; work = works.Upload small.a None } } ∷ [];
      are = ((refl, refl), refl);
      last = nothing_held;
      runs = inl (row.upload, [], uploaded (shipped.Done 3), [], nothing_held, refl, (upload_task_by row.setting small.a small.meta meta_is refl row.upload (refl, (refl, (refl, (refl, (refl, inr refl))))), refl), refl, (refl, refl, refl));
      leaves = λ gateway is. absurd (cc);
    },
    (
      record {
        own = record { place = 1; task = record { line = 7; work = works.Clean None } } ∷ [];
        are = ((refl, refl), refl);
        last = nothing_held;
        runs = inl (row.cleaning_made, [], cleaned (cleaning.Done 0 1), [], nothing_held, refl, ((Some (cleaning.Done 0 1), cleaning_run, inl (refl, λ n no. absurd (cc (no)))), refl), refl, (refl, refl, refl));
        leaves = λ gateway is. absurd (cc);
      },
      tt,
    ),
  );
  kept = λ gateway none. refl;
}

abbrev held : Holding
held = synced_by row.used

-- the query's one read finds nothing
missed : QueryTask (Some row.used) (Some (question one.selector)) held (row.read ∷ []) (Some (answered row.used (called.Missing 19))) held
missed = (Some (broken (called.Missing 19)), (broke (missing 19) held.cache, (refl, (refl, inr refl)), (refl, refl)), refl, refl)

abbrev third_on : List Entry
third_on = clock 18 1_860_100 ∷ (row.read ∷ []) ++ []

abbrev second_on : List Entry
second_on = clock 14 1_860_000 ∷ row.sync ++ third_on

abbrev first_on : List Entry
first_on = clock 1 1_800_000 ∷ row.both_made ++ second_on

third_phases : PhasesRun (by_workers row.setting) 2 (with_held held) (row.asking ∷ []) third_on (row.asking_ends ∷ [])
third_phases =
    goes_on row.setting 2 (with_held held) (with_held held) row.asking [] (clock 18 1_860_100) (row.read ∷ []) [] row.asking_ends [] (gateway_at 4 ∷ []) third_workers (record { seat = refl; sets = refl })
    (gateway_phase row.setting (record { line = 11; work = works.Query (pos 0) (pos 5000) 0 }) 4 (row.read ∷ []) (answered row.used (called.Missing 19)) (All-from_recursion (λ (e : Entry). e.seat ≡ 4) (row.read ∷ []) (refl, tt)) refl (with_held held) held (λ other. refl) missed)
    (refl, refl)

second_phases : PhasesRun (by_workers row.setting) 1 none_held (row.syncing ∷ row.asking ∷ []) second_on (row.syncing_ends ∷ row.asking_ends ∷ [])
second_phases =
    goes_on row.setting 1 none_held (with_held held) row.syncing (row.asking ∷ []) (clock 14 1_860_000) row.sync third_on row.syncing_ends (row.asking_ends ∷ []) (gateway_at 3 ∷ []) second_workers (record { seat = refl; sets = refl })
    (gateway_phase row.setting (record { line = 9; work = works.Sync 0 }) 3 row.sync (synced (fetched.View row.view)) (All-from_recursion (λ (e : Entry). e.seat ≡ 3) row.sync (refl, (refl, (refl, tt)))) refl none_held held (λ other. refl) (Some (fetched.View row.view), sync_run 15 3 1_860_001 (Some (runs.seen 1_860_001)) refl, refl, refl))
    third_phases

first_phases : PhasesRun (by_workers row.setting) 0 none_held (row.beside ∷ row.syncing ∷ row.asking ∷ []) first_on (row.beside_ends ∷ row.syncing_ends ∷ row.asking_ends ∷ [])
first_phases =
    goes_on row.setting 0 none_held none_held row.beside (row.syncing ∷ row.asking ∷ []) (clock 1 1_800_000) row.both_made second_on row.beside_ends (row.syncing_ends ∷ row.asking_ends ∷ []) side_by_side first_workers (record { seat = refl; sets = refl }) beside_run second_phases

phases : PhasesRun (by_workers row.setting) 0 none_held row.script.phases row.journal row.ends
phases = first_phases

pub kept : IsJournal 1 row.journal
kept = record {
  few = lit≤ tt;
  numbered = each_of (λ before e. e.seq ≡ length before + 1) row.journal (refl, (refl, (refl, (refl, (refl, (refl, (refl, (refl, (refl, (refl, (refl, (refl, (refl, (refl, (refl, (refl, (refl, (refl, (refl, tt)))))))))))))))))));
  lawful = each_of (λ before e. IsLawful e.op) row.journal (lit< tt, (tt, ((lit≤ tt, lit≤ tt), (tt, (lit≤ tt, (tt, (tt, (lit≤ tt, (tt, ((lit≤ tt, lit≤ tt), (tt, (tt, (tt, (lit< tt, (lit≤ tt, (tt, (tt, (lit< tt, (tt, tt)))))))))))))))))));
  kinds = each_of (λ before e. IsReplyTo e.op e.reply) row.journal (tt, (tt, (tt, (tt, (tt, (tt, (tt, (tt, (tt, (tt, (tt, (tt, (tt, (tt, (tt, (tt, (tt, (tt, (tt, tt)))))))))))))))))));
  moments = each_of (λ before e. e.moment.ms ≡ moment_after 1 (last_moment before) e.op) row.journal (refl, (refl, (refl, (refl, (refl, (refl, (refl, (refl, (refl, (refl, (refl, (refl, (refl, (refl, (refl, (refl, (refl, (refl, (refl, tt)))))))))))))))))));
  small = each_of (λ before e. e.moment.ms < 2 ^ 48) row.journal (lit< tt, (lit< tt, (lit< tt, (lit< tt, (lit< tt, (lit< tt, (lit< tt, (lit< tt, (lit< tt, (lit< tt, (lit< tt, (lit< tt, (lit< tt, (lit< tt, (lit< tt, (lit< tt, (lit< tt, (lit< tt, (lit< tt, tt)))))))))))))))))));
}

pub run : IsRunOf row.setting row.journal row.ends
run = record { kept = kept; phases = phases }

beside_done : AreDone (workers_of row.script 0) row.beside_ends
beside_done = ap (map (λ (w : Worker). length w.tasks)) first_workers

pub finished : IsFinished row.setting row.ends
finished = (
  beside_done,
  (done_by (workers_of row.script 1) (gateway_at 3) (synced (fetched.View row.view)) second_workers refl, (done_by (workers_of row.script 2) (gateway_at 4) (answered row.used (called.Missing 19)) third_workers refl, refl)),
)

pub honest : IsHonest row.journal
honest = each_of (λ before e. Tells (stands before) e.op e.reply) row.journal (tt, (refl, (tt, (tt, (bucket.data_listed, (bucket.shows_no_mark, (bucket.shows_no_meta, (bucket.objects_listed, (tt, (tt, (tt, (tt, (tt, (tt, (bucket.left_listed, (bucket.left_unmarked, (bucket.left_meta, (tt, (bucket.left_no_index, tt)))))))))))))))))))
