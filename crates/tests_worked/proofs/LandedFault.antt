-- The run in which a failed put of a block's meta has landed.
use Rattle.std.proofs.Common.{◌≡◌, inl, inr, ◌+◌, ◌^◌, ◌<◌, ℕ, true, List, [], ◌∷◌, ◌++◌, length, map, Contains, Some, None, refl, sym, ap, subst, append-nil, lit<, lit≤}
use Rattle.std.specs.List.{All}
use Rattle.std.proofs.lemmas.List.Elements.{All-contains, All-from_recursion}
use Rattle.block_meta.specs.MetaFields.{MetaFields, fields_of}
use Rattle.world_core.specs.Moments.{moment_after, last_moment}
use Rattle.world_core.specs.Operations.{IsLawful, IsReplyTo}
use Rattle.world_core.specs.Plans.{Runs}
use Rattle.world_core.specs.Standing.{IsHonest, Tells, stands}
use Rattle.world_core.specs.Worlds.{IsJournal}
use Rattle.world_core.specs.declared.entry.Entry.{Entry}
use Rattle.shipper.specs.Uploads.{upload}
use Rattle.shipper.specs.declared.upload.UploadEnd.{UploadEnd}
use Rattle.shipper.specs.declared.upload.UploadEnd.TheVariants as shipped
use Rattle.script_workers.specs.Hands.{hands_of_task, with_hands, hands_from, places_from, workers_from, seats_from}
use Rattle.script_core.specs.Workers.{workers_of}
use Rattle.script_workers.specs.declared.task.Task.{Task}
use Rattle.script_workers.specs.declared.work.Work.TheVariants as works
use Rattle.script_workers.specs.declared.worker.Worker.{Worker}
use Rattle.lifecycle_core.specs.Completed.{IsCompletedAt, PutsMeta}
use Rattle.world_core.specs.Journals.{of_seat}
use Rattle.lifecycle_core.specs.Conducts.{AreDone, PhaseRun, TasksRun, who_of}
use Rattle.lifecycle_core.specs.Holdings.{none_held, nothing_held}
use Rattle.lifecycle_core.specs.Phases.{IsFinished, IsRunOf, by_script, by_workers}
use Rattle.lifecycle_core.specs.Tasks.{End, UploadTask, uploaded}
use Rattle.lifecycle_core.specs.Ways.{PhasesRun}
use Rattle.lifecycle_core.proofs.journals.Positions.{stands_in}
use Rattle.tests_worked.specs.SmallBlock as small
use Rattle.tests_worked.specs.LandedFault as fault
use Rattle.tests_worked.proofs.small.Bucket.{shows_meta}
use Rattle.tests_worked.proofs.small.SmallMeta.{is_meta_text, meta_is}
use Rattle.tests_worked.proofs.small.Each.{each_of, by_workers_alone}
use Rattle.tests_worked.proofs.small.BuiltBlock.{shipped_objects}

-- ---- the workers

abbrev worker_at : ℕ → Worker
worker_at seat = record { seat = seat; gateway = None; tasks = 0 ∷ [] }

first_workers : workers_of fault.script 0 ≡ worker_at 1 ∷ []
unfolding hands_of_task with_hands hands_from places_from workers_from seats_from
first_workers = refl

second_workers : workers_of fault.script 1 ≡ worker_at 2 ∷ []
unfolding hands_of_task with_hands hands_from places_from workers_from seats_from
second_workers = refl

-- ---- the phases

abbrev task_at : ℕ → Task
task_at line = record { line = line; work = works.Upload small.a None }

-- an upload's end, by its entries
uploads : (entries : List Entry) (end : UploadEnd) → Runs (upload small.a (small.objects_with small.a small.meta)) entries (Some end) → UploadTask fault.setting small.a None entries (Some (uploaded end))
uploads entries end run = (small.block, refl, inl (small.objects_with small.a small.meta, Some end, shipped_objects fault.setting small.a small.meta meta_is, run, inl (refl, λ n no. absurd (cc))))

abbrev ends_of : UploadEnd → List (List End)
ends_of end = (uploaded end ∷ []) ∷ []

-- a phase of one upload, whose entries are all of its seat
phase_by : (line seat : ℕ) (made : List Entry) (end : UploadEnd) → All (λ (e : Entry). Contains (seat ∷ []) e.seat) made → of_seat seat made ≡ made → UploadTask fault.setting small.a None made (Some (uploaded end))
    → PhaseRun (by_script fault.setting) (task_at line ∷ []) (worker_at seat ∷ []) none_held made (ends_of end) none_held
phase_by line seat made end seats own task = record {
  seats = by_workers_alone (seat ∷ []) made seats;
  runs = (
    record {
      own = record { place = 0; task = task_at line } ∷ [];
      are = ((refl, refl), refl);
      last = nothing_held;
      runs = subst (λ (es : List Entry). TasksRun (by_script fault.setting) (who_of (worker_at seat)) made nothing_held (record { place = 0; task = task_at line } ∷ []) es (uploaded end ∷ []) nothing_held) (sym own) (inl (made, [], uploaded end, [], nothing_held, sym (append-nil made), (task, refl), refl, (refl, refl, refl)));
      leaves = λ gateway is. absurd (cc (is));
    },
    tt,
  );
  kept = λ gateway none. refl;
}

abbrev first_made : List Entry
first_made = fault.puts ++ fault.failed_put true ∷ []

first_phase : PhaseRun (by_script fault.setting) (task_at 4 ∷ []) (worker_at 1 ∷ []) none_held first_made (ends_of (shipped.Fault 5)) none_held
first_phase = phase_by 4 1 first_made (shipped.Fault 5)
    (All-from_recursion (λ (e : Entry). Contains (1 ∷ []) e.seat) first_made ((0, lit< tt, refl), ((0, lit< tt, refl), ((0, lit< tt, refl), ((0, lit< tt, refl), tt)))))
    refl (uploads first_made (shipped.Fault 5) (refl, (refl, (refl, (refl, (refl, inr refl))))))

second_phase : PhaseRun (by_script fault.setting) (task_at 6 ∷ []) (worker_at 2 ∷ []) none_held (fault.look ∷ []) (ends_of shipped.Already) none_held
second_phase = phase_by 6 2 (fault.look ∷ []) shipped.Already
    (All-from_recursion (λ (e : Entry). Contains (2 ∷ []) e.seat) (fault.look ∷ []) ((0, lit< tt, refl), tt))
    refl (uploads (fault.look ∷ []) shipped.Already (refl, (refl, inr refl)))

phases : PhasesRun (by_workers fault.setting) 0 none_held fault.script.phases fault.journal fault.ends
phases = inr (
  fault.first_clock,
  first_made,
  fault.second_clock ∷ fault.look ∷ [],
  ends_of (shipped.Fault 5),
  ends_of shipped.Already ∷ [],
  none_held,
  refl,
  record { seat = refl; sets = refl },
  subst (λ (ws : List Worker). PhaseRun (by_script fault.setting) (task_at 4 ∷ []) ws none_held first_made (ends_of (shipped.Fault 5)) none_held) (sym first_workers) first_phase,
  refl,
  inr (
    fault.second_clock,
    fault.look ∷ [],
    [],
    ends_of shipped.Already,
    [],
    none_held,
    refl,
    record { seat = refl; sets = refl },
    subst (λ (ws : List Worker). PhaseRun (by_script fault.setting) (task_at 6 ∷ []) ws none_held (fault.look ∷ []) (ends_of shipped.Already) none_held) (sym second_workers) second_phase,
    refl,
    (refl, refl),
  ),
)

kept : IsJournal 1 fault.journal
kept = record {
  few = lit≤ tt;
  numbered = each_of (λ before e. e.seq ≡ length before + 1) fault.journal (refl, (refl, (refl, (refl, (refl, (refl, (refl, tt)))))));
  lawful = each_of (λ before e. IsLawful e.op) fault.journal (lit< tt, (tt, ((lit≤ tt, lit≤ tt), (tt, (tt, (lit< tt, (tt, tt)))))));
  kinds = each_of (λ before e. IsReplyTo e.op e.reply) fault.journal (tt, (tt, (tt, (tt, (tt, (tt, (tt, tt)))))));
  moments = each_of (λ before e. e.moment.ms ≡ moment_after 1 (last_moment before) e.op) fault.journal (refl, (refl, (refl, (refl, (refl, (refl, (refl, tt)))))));
  small = each_of (λ before e. e.moment.ms < 2 ^ 48) fault.journal (lit< tt, (lit< tt, (lit< tt, (lit< tt, (lit< tt, (lit< tt, (lit< tt, tt)))))));
}

pub run : IsRunOf fault.setting fault.journal fault.ends
run = record { kept = kept; phases = phases }

first_done : AreDone (workers_of fault.script 0) (ends_of (shipped.Fault 5))
first_done = ap (map (λ (w : Worker). length w.tasks)) first_workers

second_done : AreDone (workers_of fault.script 1) (ends_of shipped.Already)
second_done = ap (map (λ (w : Worker). length w.tasks)) second_workers

pub finished : IsFinished fault.setting fault.ends
finished = (first_done, (second_done, refl))

pub honest : IsHonest fault.journal
honest = each_of (λ before e. Tells (stands before) e.op e.reply) fault.journal (tt, (refl, (tt, (tt, (tt, (tt, (shows_meta, tt)))))))

-- ---- when the block is complete

abbrev fresh : List Entry
fresh = fault.first_clock ∷ fault.puts

none_put : All (λ (e : Entry). ¬ PutsMeta small.a e) fresh
none_put = All-from_recursion (λ (e : Entry). ¬ PutsMeta small.a e) fresh (λ put. cc (put.1), (λ put. cc (put.1), (λ put. cc (put.1), (λ put. cc (put.1), tt))))

pub completes : IsCompletedAt fault.journal small.a 5 (fields_of small.said)
completes = record {
  before = fresh;
  entry = fault.failed_put true;
  after = fault.second_clock ∷ fault.look ∷ [];
  is = refl;
  number = refl;
  bytes = small.meta;
  puts = refl;
  landed = refl;
  text = is_meta_text;
  first = none_put;
}

none_landed : All (λ (e : Entry). ¬ PutsMeta small.a e) fault.lost
none_landed = All-from_recursion (λ (e : Entry). ¬ PutsMeta small.a e) fault.lost (λ put. cc (put.1), (λ put. cc (put.1), (λ put. cc (put.1), (λ put. cc (put.1), (λ put. cc (put.2), tt)))))

pub completes_not : (seq : ℕ) (meta : MetaFields) → ¬ IsCompletedAt fault.lost small.a seq meta
completes_not seq meta c =
    let among : Contains fault.lost c.entry = subst (λ (es : List Entry). Contains es c.entry) (sym c.is) (stands_in c.before c.after c.entry) in
    All-contains (λ (e : Entry). ¬ PutsMeta small.a e) fault.lost c.entry none_landed among (c.bytes, c.puts, c.landed)
