-- Which seats are those of compactions, and when a read at one comes too late.
use Rattle.base.proofs.Membership.{any_of_member, member_of_any}
use Rattle.base.proofs.Bools.{same-from_is_eq}
use Rattle.std.proofs.Common.{◌≡◌, ◌⊎◌, inl, inr, ℕ, ◌+◌, ◌&&◌, ◌||◌, true, false, List, [], ◌∷◌, length, Option, Some, None, refl, sym, ◌∙◌, ap, subst, arith}
use Rattle.std.specs.Prelude.{◌/◌, option_map, slice_get}
use Rattle.std.specs.BTreeSet.{BTreeSet, contains}
use Rattle.std.specs.List.{list_any}
use Rattle.std.specs.Option.{option_map_or}
use Rattle.std.specs.Ordering.{is_eq, nat_cmp}
use Rattle.std.proofs.lemmas.Bool.{and_from, and_parts, cases_Bool, cases_lt, or_cases, or_left, or_right}
use Rattle.std.proofs.lemmas.Option.{slice_get_within}
use Rattle.moment_core.specs.declared.moment.Moment.{Moment}
use Rattle.world_core.specs.declared.entry.Entry.{Entry}
use Rattle.world_core.specs.declared.op.Op.{Op}
use Rattle.world_core.specs.declared.op.Op.TheVariants.{Clock, Put, Get, GetRange, Delete, RootPage, BlockPage}
use Rattle.script_core.specs.declared.script.Script.{Script}
use Rattle.script_core.specs.Workers.{workers_of}
use Rattle.script_workers.specs.Works.{is_compaction}
use Rattle.script_workers.specs.declared.phase.Phase.{Phase}
use Rattle.script_workers.specs.declared.task.Task.{Task}
use Rattle.script_workers.specs.declared.work.Work.{Work}
use Rattle.script_workers.specs.declared.work.Work.TheVariants as works
use Rattle.script_workers.specs.declared.worker.Worker.{Worker}
use Rattle.lifecycle_core.specs.Breaches.{IsCompactorSeat, IsOver, IsReading, Refuses, read_time}
use Rattle.world_core.specs.Journals.{of_seat}
use Rattle.lifecycle_core.specs.Setting.{FromShelf, Setting}
use Rattle.breach_finding.specs.Tables.{AreCompactors, CompactsBefore, compacts_among, compacts_at, tasks_at}
use Rattle.breach_finding.specs.Told.{IsTold}
use Rattle.breach_finding.specs.Views.{IsCompactionAnswer, IsViewAnswer}
use Rattle.breach_finding.specs.Walks.{setting_with}
use Rattle.breach_finding.proofs.SeatTables.{num_itself}

-- ---- the seats

-- the seats of the workers of one phase more that compact
pub compactors_more : (script : Script) (number : ℕ) (old new : BTreeSet ℕ) → AreCompactors script number old
    → ((seat : ℕ) → contains nat_cmp new seat ≡ (contains nat_cmp old seat || compacts_among (tasks_at script number) seat (workers_of script number))) → AreCompactors script (number + 1) new
compactors_more script number old new known added seat = (
  λ has. elim (or_cases (contains nat_cmp old seat) (compacts_among (tasks_at script number) seat (workers_of script number)) (sym (added seat) ∙ has)) [
    | inl before ↦ (let b = (known seat).0 before in (b.0, (let less = b.1 in omega (arith, less)), b.2))
    | inr here ↦ (number, omega arith, here)
  ],
  λ (own, less, sits). added seat ∙ elim (cases_lt own number) [
    | inl below ↦ or_left _ _ ((known seat).1 (own, below, sits))
    | inr above ↦ (let same : own ≡ number = omega (arith, less, above) in
        or_right _ _ (subst (λ (n : ℕ). compacts_among (tasks_at script n) seat (workers_of script n) ≡ true) same sits))
  ],
)

empty_contains : (seats : BTreeSet ℕ) → seats.keys ≡ [] → (seat : ℕ) → contains nat_cmp seats seat ≡ false
empty_contains seats none seat = ap (λ (ks : List ℕ). list_any (λ k. is_eq (nat_cmp seat k)) ks) none

-- before the first phase
pub compactors_none : (script : Script) (seats : BTreeSet ℕ) → seats.keys ≡ [] → AreCompactors script 0 seats
compactors_none script seats none seat = (λ has. cc (has, empty_contains seats none seat), λ (own, less, sits). absurd (omega (arith, less)))

-- ---- a compaction among tasks

compacts_work : (w : Work) → is_compaction w ≡ true → (stop : Option ℕ) × (w ≡ works.Compact stop)
compacts_work (works.Upload ulid stop) is = cc (is)
compacts_work (works.Sync gateway) is = cc (is)
compacts_work (works.Compact stop) is = (stop, refl)
compacts_work (works.Clean stop) is = cc (is)
compacts_work (works.Query low high selector) is = cc (is)

task_found : (o : Option Task) → option_map_or (λ (task : Task). is_compaction task.work) o false ≡ true → (task : Task) × (o ≡ Some task) × (is_compaction task.work ≡ true)
task_found None is = cc (is)
task_found (Some task) is = (task, refl, is)

none_in : (place : ℕ) → compacts_at [] place ≡ true → ⊥
none_in place is = cc (is)

-- the tasks of a phase that has a compaction at a place are those of a phase
phase_found : (o : Option Phase) (place : ℕ) → compacts_at (option_map_or (λ (phase : Phase). phase.tasks) o []) place ≡ true → (phase : Phase) × (o ≡ Some phase) × (compacts_at phase.tasks place ≡ true)
phase_found None place is = absurd (none_in place is)
phase_found (Some phase) place is = (phase, refl, is)

module _ (script : Script) (shelf : ℕ → FromShelf) (seat : ℕ) where
  pub compactor_is : CompactsBefore script (length script.phases) seat → IsCompactorSeat (setting_with script shelf) seat
  compactor_is (number, less, sits) =
      let by = member_of_any (λ (worker : Worker). is_eq (nat_cmp worker.seat seat) && list_any (compacts_at (tasks_at script number)) worker.tasks) (workers_of script number) sits in
      let both = and_parts (is_eq (nat_cmp (by.0).seat seat)) (list_any (compacts_at (tasks_at script number)) (by.0).tasks) by.2 in
      let at = member_of_any (compacts_at (tasks_at script number)) (by.0).tasks both.1 in
      let phase = phase_found (slice_get script.phases number) at.0 at.2 in
      let task = task_found (slice_get (phase.0).tasks at.0) phase.2 in
      let work = compacts_work (task.0).work task.2 in
      record {
        number = number;
        worker = by.0;
        works = by.1;
        sits = same-from_is_eq (by.0).seat seat both.0;
        place = at.0;
        own = at.1;
        stop = work.0;
        compacts = record { phase = phase.0; task = task.0; in_phases = phase.1; in_tasks = task.1; asks = work.1 };
      }

  pub compactor_before : IsCompactorSeat (setting_with script shelf) seat → CompactsBefore script (length script.phases) seat
  compactor_before c =
      let w = c.compacts in
      let tasks : tasks_at script c.number ≡ (w.phase).tasks = ap (λ (o : Option Phase). option_map_or (λ (phase : Phase). phase.tasks) o []) w.in_phases in
      let here : compacts_at (w.phase).tasks c.place ≡ true =
      ap (λ (o : Option Task). option_map_or (λ (task : Task). is_compaction task.work) o false) w.in_tasks ∙ ap is_compaction w.asks in
      let at : compacts_at (tasks_at script c.number) c.place ≡ true = ap (λ (ts : List Task). compacts_at ts c.place) tasks ∙ here in
      let both = and_from (is_eq (nat_cmp (c.worker).seat seat)) (list_any (compacts_at (tasks_at script c.number)) (c.worker).tasks) (num_itself (c.worker).seat seat c.sits) (any_of_member (compacts_at (tasks_at script c.number)) (c.worker).tasks c.place c.own at) in (
        c.number,
        slice_get_within script.phases c.number w.phase w.in_phases,
        any_of_member (λ (worker : Worker). is_eq (nat_cmp worker.seat seat) && list_any (compacts_at (tasks_at script c.number)) worker.tasks) (workers_of script c.number) c.worker c.works both,
      )

-- ---- a read

reading_or_not : (o : Op) → IsReading o ⊎ (IsReading o → ⊥)
reading_or_not (Clock moment) = inr (λ reads. reads)
reading_or_not (Put key bytes) = inr (λ reads. reads)
reading_or_not (Get key) = inl tt
reading_or_not (GetRange key from len) = inl tt
reading_or_not (Delete key) = inr (λ reads. reads)
reading_or_not (RootPage after limit) = inl tt
reading_or_not (BlockPage ulid after limit) = inl tt

-- the moment of the first of a seat's entries
abbrev pub moment_of_first : List Entry → Option ℕ
moment_of_first entries = option_map (λ (x : Entry). x.moment.ms) (slice_get entries 0)

module _ (script : Script) (shelf : ℕ → FromShelf) (journal before : List Entry) (e : Entry) where
  abbrev setting : Setting
  setting = setting_with script shelf

  abbrev R : ℕ → ℕ → Type 0
  R = Refuses setting journal read_time before e

  not_refused : (IsCompactorSeat setting e.seat → IsReading e.op → ⊥) → (answer : Option (ℕ × ℕ)) → answer ≡ None → IsTold R answer
  not_refused never None none = λ x y (begin, (sits, (own, reads, first)), over). never sits reads
  not_refused never (Some told) none = cc (none)

  by_first : IsCompactorSeat setting e.seat → IsReading e.op → (entries : List Entry) → of_seat e.seat journal ≡ entries → (span : ℕ) → span ≡ script.rules.delete.ms / 2
      → (answer : Option (ℕ × ℕ)) → IsViewAnswer (moment_of_first entries) e.moment.ms span answer → IsTold R answer
  by_first sits reads [] is span half None asked = λ x y (begin, (other, (own, also, (first, others, parts, at))), over). cc (is, parts)
  by_first sits reads [] is span half (Some told) asked = cc (asked)
  by_first sits reads (first ∷ others) is span half None asked = λ x y (begin, (other, (own, also, (one, more, parts, at))), over).
      let same : one ≡ first = cc (is, parts) in
      let begins : begin ≡ first.moment = sym at ∙ ap (λ (z : Entry). z.moment) same in
      asked x y (subst (λ (s : ℕ). IsOver e.moment.ms (first.moment.ms + s) x y) (sym half) (subst (λ (m : Moment). IsOver e.moment.ms (m.ms + script.rules.delete.ms / 2) x y) begins over))
  by_first sits reads (first ∷ others) is span half (Some told) asked = (
    first.moment,
    (sits, (refl, reads, (first, others, is, refl))),
    subst (λ (s : ℕ). IsOver e.moment.ms (first.moment.ms + s) told.0 told.1) half asked,
  )

  pub compaction_told : (compactors : BTreeSet ℕ) (begins : Option ℕ) → AreCompactors script (length script.phases) compactors → begins ≡ moment_of_first (of_seat e.seat journal)
      → (slow : Option (ℕ × ℕ)) → IsCompactionAnswer (contains nat_cmp compactors e.seat) begins e (script.rules.delete.ms / 2) slow → IsTold R slow
  compaction_told compactors begins known first slow asked = elim (cases_Bool (contains nat_cmp compactors e.seat)) [
    | inl has ↦ elim (reading_or_not e.op) [
      | inl reads ↦ by_first (compactor_is script shelf e.seat ((known e.seat).0 has)) reads (of_seat e.seat journal) refl (script.rules.delete.ms / 2) refl slow
          (subst (λ (o : Option ℕ). IsViewAnswer o e.moment.ms (script.rules.delete.ms / 2) slow) first (asked.asked has reads))
      | inr none ↦ not_refused (λ sits reads. none reads) slow (asked.no_read none)
    ]
    | inr none ↦ not_refused (λ sits reads. let has = (known e.seat).1 (compactor_before script shelf e.seat sits) in cc (none, has)) slow (asked.elsewhere none)
  ]
