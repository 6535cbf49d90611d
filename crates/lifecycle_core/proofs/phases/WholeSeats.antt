-- A compaction is all that its seat did.
use Rattle.base.proofs.Membership.{contains_first, contains_later, member_cases, no_member, of_map, only_member}
use Rattle.base.proofs.Pairs.{AllZip-first}
use Rattle.std.proofs.Common.{◌≡◌, ◌≢◌, ◌⊎◌, inl, inr, ℕ, suc, ◌+◌, ◌<◌, ◌≤◌, List, [], ◌∷◌, ◌++◌, map, Contains, Option, Some, None, refl, sym, ◌∙◌, ap, subst, append-nil, arith}
use Rattle.std.specs.Prelude.{option_map, slice_get}
use Rattle.std.proofs.lemmas.List.Elements.{All-contains}
use Rattle.world_core.specs.declared.entry.Entry.{Entry}
use Rattle.meta_fetcher.specs.declared.sync.SyncEnd.{SyncEnd}
use Rattle.compactor.specs.Compactions.{CompactRun, compaction}
use Rattle.compactor.specs.declared.compact_end.CompactEnd.{CompactEnd}
use Rattle.cleaner.specs.Cleanings.{cleaning}
use Rattle.store_calls.specs.SeriesCalls.{CallEnd}
use Rattle.script_core.specs.Lawful.{IsLawfulScript}
use Rattle.script_core.specs.Workers.{workers_of}
use Rattle.script_workers.specs.declared.phase.Phase.{Phase}
use Rattle.script_workers.specs.declared.task.Task.{Task}
use Rattle.script_workers.specs.declared.work.Work.{Work}
use Rattle.script_workers.specs.declared.work.Work.TheVariants.{Upload, Sync, Compact, Clean, Query}
use Rattle.script_workers.specs.declared.worker.Worker.{Worker}
use Rattle.lifecycle_core.specs.Breaches.{IsCompactorSeat}
use Rattle.lifecycle_core.specs.Causes.{SomeCame}
use Rattle.world_core.specs.Journals.{of_seat}
use Rattle.lifecycle_core.specs.Conducts.{Assigned, PhaseRun, TasksAt, TasksRun, Who, WorkerRun, who_of}
use Rattle.lifecycle_core.specs.Holdings.{Holding, Holdings, Use, none_held}
use Rattle.lifecycle_core.specs.Phases.{IsRunOf, by_script, by_workers}
use Rattle.lifecycle_core.specs.Setting.{Setting}
use Rattle.lifecycle_core.specs.Tasks.{End, TaskRun, answered, ask_to, cleaned, compacted, question_of, synced}
use Rattle.lifecycle_core.specs.Ways.{PhasesRun}
use Rattle.lifecycle_core.proofs.deeds.ActingDeeds.{acting_deeds, alone, compactor_alone, none_of_seat, parted}
use Rattle.lifecycle_core.proofs.deeds.Words.{Compacts}
use Rattle.lifecycle_core.proofs.phases.ActingRuns.{runs_act, seats_stay}
use Rattle.lifecycle_core.proofs.phases.GatewayParts.{part_ends, query_is}
use Rattle.lifecycle_core.proofs.phases.OneSeat.{one_phase, seat_above}
use Rattle.lifecycle_core.proofs.phases.ShipEnds.{ship_end, stopped_end}

-- ---- the task of a compaction's end

-- the work is a compaction, and the entries are its run
record IsCompaction (setting : Setting) (w : Work) (entries : List Entry) (own : CompactEnd) : Type 0 where
  stop : Option ℕ
  is : w ≡ Compact stop
  run : CompactRun setting.script.rules entries (Some own)

no_sync : (own : CompactEnd) (end : Option SyncEnd) → Some (compacted own) ≡ option_map synced end → ⊥
no_sync own None same = cc (same)
no_sync own (Some end) same = cc (same)

no_call : (own : CompactEnd) (from : Use) (call : Option CallEnd) → Some (compacted own) ≡ option_map (λ (c : CallEnd). answered from c.end) call → ⊥
no_call own from None same = cc (same)
no_call own from (Some call) same = cc (same)

task_compacts : (setting : Setting) (who : Who) (place : ℕ) (w : Work) (held after : Holding) (entries : List Entry) (own : CompactEnd) → TaskRun setting who place w held entries (Some (compacted own)) after → IsCompaction setting w entries own
task_compacts setting who place (Upload ulid stop) held after entries own ((block, is, ships), left) =
    absurd (ship_end (λ (x : End). x ≡ compacted own → ⊥) setting block stop entries (compacted own) (λ objects end run same. cc (same)) (λ cause same. cc (same)) (λ n same. cc (same)) ships (λ i. compacted own))
task_compacts setting who place (Sync gateway) held after entries own (end, run, same, left) = absurd (no_sync own end same)
task_compacts setting who place (Compact stop) held after entries own (run, left) = record {
  stop = stop;
  is = refl;
  run = stopped_end (λ (x : End). x ≡ compacted own → CompactRun setting.script.rules entries (Some own)) (compaction setting.script.rules) compacted stop entries (compacted own)
      (λ end done same. let one : end ≡ own = cc (same) in subst (λ (x : CompactEnd). CompactRun setting.script.rules entries (Some x)) one done) (λ n same. absurd (cc (same))) run (λ i. compacted own);
}
task_compacts setting who place (Clean stop) held after entries own (run, left) =
    absurd (stopped_end (λ (x : End). x ≡ compacted own → ⊥) (cleaning setting.script.rules) cleaned stop entries (compacted own) (λ end done same. cc (same)) (λ n same. cc (same)) run (λ i. compacted own))
task_compacts setting who place (Query low high selector) held after entries own run =
    let part = part_ends setting selector (ask_to setting who.gateway low high) held after entries (compacted own) (λ off. cc (off)) run in
    absurd (elim (query_is held.used (question_of setting selector part.0) held entries (Some (compacted own)) after part.2) [
      | inl none ↦ elim none.0.1 [ inl off ↦ cc (off) | inr same ↦ cc (same) ]
      | inr call ↦ no_call own call.from call.own call.came
    ])

-- ---- a worker's tasks

-- one of the tasks is a compaction
abbrev HasCompaction : List Assigned → Type 0
HasCompaction tasks = (x : Assigned) × Contains tasks x × ((stop : Option ℕ) × (x.task.work ≡ Compact stop))

module _ (setting : Setting) (who : Who) (all : List Entry) (own : CompactEnd) where
  first_or : (first : Assigned) (tasks : List Assigned) → HasCompaction tasks → HasCompaction (first ∷ tasks)
  first_or first tasks (x, among, is) = (x, contains_later first x tasks among, is)

  finds_compaction : (held last : Holding) (tasks : List Assigned) (entries : List Entry) (ends : List End) → TasksRun (by_script setting) who all held tasks entries ends last → Contains ends (compacted own) → HasCompaction tasks
  finds_compaction held last [] entries ends (nil, none, same) among = absurd (no_member (compacted own) (subst (λ es. Contains es (compacted own)) none among))
  finds_compaction held last (x ∷ tasks) entries ends (inl (made, others, end, later, next, parts, run, is, rest)) among =
      elim (member_cases end (compacted own) later (subst (λ es. Contains es (compacted own)) is among)) [
        | inl same ↦
            let c = task_compacts setting who x.place x.task.work held next made own (subst (λ (e : End). TaskRun setting who x.place x.task.work held made (Some e) next) same run) in
            (x, contains_first x tasks, (c.stop, c.is))
        | inr behind ↦ first_or x tasks (finds_compaction next last tasks others later rest behind)
      ]
  finds_compaction held last (x ∷ tasks) entries ends (inr (run, none)) among = absurd (no_member (compacted own) (subst (λ es. Contains es (compacted own)) none among))

  -- where it is the only one, the entries are its run
  alone_runs : (held last : Holding) (x : Assigned) (entries : List Entry) (ends : List End) → TasksRun (by_script setting) who all held (x ∷ []) entries ends last → Contains ends (compacted own) → CompactRun setting.script.rules entries (Some own)
  alone_runs held last x entries ends (inl (made, others, end, later, next, parts, run, is, (nil, none, left))) among =
      let ended : ends ≡ end ∷ [] = is ∙ ap (λ (es : List End). end ∷ es) none in
      let same : end ≡ compacted own = only_member end (compacted own) (subst (λ es. Contains es (compacted own)) ended among) in
      let c = task_compacts setting who x.place x.task.work held next made own (subst (λ (e : End). TaskRun setting who x.place x.task.work held made (Some e) next) same run) in
      let whole : entries ≡ made = parts ∙ ap (λ (es : List Entry). made ++ es) nil ∙ append-nil made in
      subst (λ (es : List Entry). CompactRun setting.script.rules es (Some own)) (sym whole) c.run
  alone_runs held last x entries ends (inr (run, none)) among = absurd (no_member (compacted own) (subst (λ es. Contains es (compacted own)) none among))

-- where a task stands
task_place : (tasks : List Task) (places : List ℕ) (found : List Assigned) → TasksAt tasks places found → (x : Assigned) → Contains found x → Contains places x.place × (slice_get tasks x.place ≡ Some x.task)
task_place tasks [] found at x among = absurd (no_member x (subst (λ fs. Contains fs x) at among))
task_place tasks (place ∷ places) [] at x among = absurd at
task_place tasks (place ∷ places) (own ∷ found) at x among = elim (member_cases own x found among) [
  | inl same ↦ (
    subst (λ (y : Assigned). Contains (place ∷ places) y.place) same (subst (Contains (place ∷ places)) (sym (at.0).0) (contains_first place places)),
    subst (λ (y : Assigned). slice_get tasks y.place ≡ Some y.task) same (subst (λ (p : ℕ). slice_get tasks p ≡ Some own.task) (sym (at.0).0) (at.0).1),
  )
  | inr later ↦ let rest = task_place tasks places found at.1 x later in (contains_later place x.place places rest.0, rest.1)
]

one_assigned : (tasks : List Task) (place : ℕ) (found : List Assigned) → TasksAt tasks (place ∷ []) found → (x : Assigned) × (found ≡ x ∷ [])
one_assigned tasks place [] at = absurd at
one_assigned tasks place (x ∷ found) at = (x, ap (λ (l : List Assigned). x ∷ l) at.1)

-- ---- the entries of a seat

module _ (setting : Setting) (lawful : IsLawfulScript setting.script) where
  pub clock_apart : (n : ℕ) (a : Worker) → Contains (workers_of setting.script n) a → (clock : Entry) → clock.seat ≡ 0 → clock.seat ≢ a.seat
  clock_apart n a inside clock sets same = let above = seat_above setting.script lawful n a inside in absurd (omega (arith, above, sets, same))

  -- a worker makes no entry of another phase
  pub quiet_phase : (n : ℕ) (a : Worker) → Contains (workers_of setting.script n) a → (number : ℕ) (tasks : List Task) (before : Holdings) (made : List Entry) (ends : List (List End)) (after : Holdings) → number ≢ n
      → PhaseRun (by_script setting) tasks (workers_of setting.script number) before made ends after → of_seat a.seat made ≡ []
  quiet_phase n a inside number tasks before made ends after other run =
      none_of_seat a.seat made
      (λ e among same. elim (All-contains (λ (x : Entry). Contains (map (λ (w : Worker). w.seat) (workers_of setting.script number)) x.seat ⊎ (by_script setting).bystands x) made e run.seats among) [
        | inl sits ↦
            let who = of_map (λ (w : Worker). w.seat) (workers_of setting.script number) e.seat sits in
            other (one_phase setting.script lawful number n who.0 a who.1 inside (who.2 ∙ same))
        | inr none ↦ none
      ])

  quiet_phases : (n : ℕ) (a : Worker) → Contains (workers_of setting.script n) a → (number : ℕ) (before : Holdings) (phases : List Phase) (entries : List Entry) (ends : List (List (List End))) → n < number
      → PhasesRun (by_workers setting) number before phases entries ends → of_seat a.seat entries ≡ []
  quiet_phases n a inside number before [] entries ends later run = ap (of_seat a.seat) run.0
  quiet_phases n a inside number before (phase ∷ phases) entries ends later (inl none) = ap (of_seat a.seat) none.0
  quiet_phases n a inside number before (phase ∷ phases) entries ends later (inr (clock, made, others, first, more, after, parts, begins, run, are, go)) =
      let other : number ≢ n = λ same. absurd (omega (arith, later, same)) in
      parted a.seat clock made others entries parts (clock_apart n a inside clock begins.seat)
      ∙ ap (λ (l : List Entry). l ++ of_seat a.seat others) (quiet_phase n a inside number phase.tasks before made first after other run)
      ∙ quiet_phases n a inside (number + 1) after phases others more (omega (arith, later)) go

  -- the phase that came to these ends; its workers make no other entries
  record IsThere (number : ℕ) (entries : List Entry) (told : List (List End)) : Type 0 where
    n : ℕ
    low : number ≤ n
    phase : Phase
    at : slice_get setting.script.phases n ≡ Some phase
    before : Holdings
    made : List Entry
    after : Holdings
    run : PhaseRun (by_script setting) phase.tasks (workers_of setting.script n) before made told after
    whole : (a : Worker) → Contains (workers_of setting.script n) a → of_seat a.seat entries ≡ of_seat a.seat made

  there : (number : ℕ) (before : Holdings) (phases : List Phase) (entries : List Entry) (ends : List (List (List End))) → ((k : ℕ) (p : Phase) → slice_get phases k ≡ Some p → slice_get setting.script.phases (number + k) ≡ Some p)
      → PhasesRun (by_workers setting) number before phases entries ends → (told : List (List End)) → Contains ends told → IsThere number entries told
  there number before [] entries ends same run told among = absurd (no_member told (subst (λ es. Contains es told) run.1 among))
  there number before (phase ∷ phases) entries ends same (inl none) told among = absurd (no_member told (subst (λ es. Contains es told) none.1 among))
  there number before (phase ∷ phases) entries ends same (inr (clock, made, others, first, more, after, parts, begins, run, are, go)) told among =
      let at : slice_get setting.script.phases number ≡ Some phase = ap (slice_get setting.script.phases) (omega arith) ∙ same 0 phase refl in
      let next : (k : ℕ) (p : Phase) → slice_get phases k ≡ Some p → slice_get setting.script.phases (number + 1 + k) ≡ Some p = λ k p own. ap (slice_get setting.script.phases) (omega arith) ∙ same (suc k) p own in
      elim (member_cases first told more (subst (λ es. Contains es told) are among)) [
        | inl is ↦ record {
          n = number;
          low = omega arith;
          phase = phase;
          at = at;
          before = before;
          made = made;
          after = after;
          run = subst (λ (t : List (List End)). PhaseRun (by_script setting) phase.tasks (workers_of setting.script number) before made t after) is run;
          whole = λ a inside.
              parted a.seat clock made others entries parts (clock_apart number a inside clock begins.seat)
              ∙ ap (λ (l : List Entry). of_seat a.seat made ++ l) (quiet_phases number a inside (number + 1) after phases others more (omega arith) go) ∙ append-nil (of_seat a.seat made);
        }
        | inr later ↦
            let t = there (number + 1) after phases others more next go told later in
            record {
              n = t.n;
              low = omega (arith, t.low);
              phase = t.phase;
              at = t.at;
              before = t.before;
              made = t.made;
              after = t.after;
              run = t.run;
              whole = λ a inside.
                  parted a.seat clock made others entries parts (clock_apart t.n a inside clock begins.seat)
                  ∙ ap (λ (l : List Entry). l ++ of_seat a.seat others) (quiet_phase t.n a inside number phase.tasks before made first after (λ is. absurd (omega (arith, t.low, is))) run) ∙ t.whole a inside;
            }
      ]

-- ---- the whole seat

-- a compaction that came to this end is all that its seat did
pub record IsWholeCompaction (setting : Setting) (journal : List Entry) (own : CompactEnd) : Type 0 where
  pub seat : ℕ
  pub run : CompactRun setting.script.rules (of_seat seat journal) (Some own)
  pub compactor : IsCompactorSeat setting seat

module _ (setting : Setting) (journal : List Entry) (lawful : IsLawfulScript setting.script) (own : CompactEnd) (n : ℕ) (phase : Phase) (at : slice_get setting.script.phases n ≡ Some phase) (before : Holdings) (made : List Entry) (after : Holdings)
    (a : Worker) (inside : Contains (workers_of setting.script n) a) (mine : List End) (worked : WorkerRun (by_script setting) phase.tasks before made after a mine) (came : Contains mine (compacted own))
    (whole : of_seat a.seat journal ≡ of_seat a.seat made) where
  has : HasCompaction worked.own
  has = finds_compaction setting (who_of a) made own ((by_script setting).opens before a) worked.last worked.own (of_seat a.seat made) mine worked.runs came

  stands : Contains a.tasks (has.0).place × (slice_get phase.tasks (has.0).place ≡ Some (has.0).task)
  stands = task_place phase.tasks a.tasks worked.own worked.are has.0 has.1

  without : a.gateway ≡ None
  without = compactor_alone setting lawful n (has.0).place a phase (has.0).task inside stands.0 at stands.1 has.2

  by_one : (place : ℕ) → a.tasks ≡ place ∷ [] → CompactRun setting.script.rules (of_seat a.seat made) (Some own)
  by_one place one =
      let x = one_assigned phase.tasks place worked.own (subst (λ (ps : List ℕ). TasksAt phase.tasks ps worked.own) one worked.are) in
      alone_runs setting (who_of a) made own ((by_script setting).opens before a) worked.last x.0 (of_seat a.seat made) mine
      (subst (λ (xs : List Assigned). TasksRun (by_script setting) (who_of a) made ((by_script setting).opens before a) xs (of_seat a.seat made) mine worked.last) x.1 worked.runs) came

  its_run : CompactRun setting.script.rules (of_seat a.seat made) (Some own)
  its_run = elim (alone setting lawful n a inside without).one [
    | inl none ↦ absurd (no_member (has.0).place (subst (λ (ps : List ℕ). Contains ps (has.0).place) none stands.0))
    | inr one ↦ by_one (alone setting lawful n a inside without).place one
  ]

  whole_compaction : IsWholeCompaction setting journal own
  whole_compaction = record {
    seat = a.seat;
    run = subst (λ (es : List Entry). CompactRun setting.script.rules es (Some own)) (sym whole) its_run;
    compactor = record {
      number = n;
      worker = a;
      works = inside;
      sits = refl;
      place = (has.0).place;
      own = stands.0;
      stop = (has.2).0;
      compacts = record { phase = phase; task = (has.0).task; in_phases = at; in_tasks = stands.1; asks = (has.2).1 };
    };
  }

pub compaction_came : (setting : Setting) (journal : List Entry) (ends : List (List (List End))) → IsLawfulScript setting.script → IsRunOf setting journal ends → (own : CompactEnd) → SomeCame ends (compacted own) → IsWholeCompaction setting journal own
compaction_came setting journal ends lawful run own (told, mine, one, two, three) =
    let t = there setting lawful 0 none_held setting.script.phases journal ends (λ k p is. ap (slice_get setting.script.phases) (omega arith) ∙ is) run.phases told one in
    let w = AllZip-first (WorkerRun (by_script setting) t.phase.tasks t.before t.made t.after) (workers_of setting.script t.n) told mine t.run.runs two in
    whole_compaction setting journal lawful own t.n t.phase t.at t.before t.made t.after w.0 w.1 mine w.2 three (t.whole w.0 w.1)

-- and its seat's deed is a compaction
pub compactor_compacts : (setting : Setting) (journal : List Entry) (ends : List (List (List End))) (lawful : IsLawfulScript setting.script) (run : IsRunOf setting journal ends) (seat : ℕ) → IsCompactorSeat setting seat
    → Compacts ((acting_deeds setting journal lawful (runs_act setting journal ends lawful run)).deeds.deed seat)
compactor_compacts setting journal ends lawful run seat is = (acting_deeds setting journal lawful (runs_act setting journal ends lawful run)).compactors seat (seat, is, seats_stay setting journal ends lawful run seat)
