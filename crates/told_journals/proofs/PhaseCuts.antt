-- A phase whose workers were each played again: how far its entries are a run.
use Rattle.base.proofs.Lists.{All-append_left}
use Rattle.base.proofs.Pairs.{AllZip-second}
use Rattle.std.proofs.Common.{◌≡◌, ◌⊎◌, inl, inr, ℕ, zero, suc, true, ◌≤◌, ◌==◌, List, [], ◌∷◌, ◌++◌, length, map, take, drop, Contains, Option, Some, None, refl, sym, ◌∙◌, ap, subst, arith, append-nil}
use Rattle.std.specs.Prelude.{slice_get}
use Rattle.std.specs.List.{All, AllByRecursion, AllZip}
use Rattle.std.proofs.lemmas.Bool.{eq-eqb}
use Rattle.std.proofs.lemmas.List.{take-append-drop}
use Rattle.world_core.specs.Journals.{of_seat}
use Rattle.world_core.specs.declared.entry.Entry.{Entry}
use Rattle.script_core.specs.Workers.{workers_of}
use Rattle.script_workers.specs.declared.task.Task.{Task}
use Rattle.script_workers.specs.declared.worker.Worker.{Worker}
use Rattle.lifecycle_core.specs.Conducts.{Assigned, PhaseRun, TasksAt, Who, WorkerRun, who_of}
use Rattle.lifecycle_core.specs.Holdings.{Holding, Holdings, holding_of}
use Rattle.lifecycle_core.specs.Setting.{Setting}
use Rattle.lifecycle_core.specs.Tasks.{End, TaskRun}
use Rattle.lifecycle_core.proofs.phases.Fronts.{script_is_cut_well, seat_parts}
use Rattle.lifecycle_core.proofs.phases.OneEnding.{alike, first_longer, second_longer, at_tells, parted, task_once}
use Rattle.lifecycle_core.proofs.phases.RunFronts.{task_cut}
use Rattle.told_journals.specs.Told.{as_told}
use Rattle.told_journals.proofs.WorkersAsk.{Did, Told, untold}

own_by : (seat : ℕ) (e : Entry) (es : List Entry) → (e.seat == seat) ≡ true → of_seat seat (e ∷ es) ≡ e ∷ of_seat seat es
own_by seat e es is = rw is refl

own_first : (seat : ℕ) (e : Entry) (es : List Entry) → e.seat ≡ seat → of_seat seat (e ∷ es) ≡ e ∷ of_seat seat es
own_first seat e es is = own_by seat e es (eq-eqb e.seat seat is)

pub shorter : (es : List Entry) (n m : ℕ) → n ≤ m → take n (take m es) ≡ take n es
shorter [] zero m below = refl
shorter [] (suc n) zero below = refl
shorter [] (suc n) (suc m) below = refl
shorter (e ∷ es) zero m below = refl
shorter (e ∷ es) (suc n) zero below = absurd (omega (arith, below))
shorter (e ∷ es) (suc n) (suc m) below = ap (λ l. e ∷ l) (shorter es n m (omega (arith, below)))

-- ---- a worker

module _ (setting : Setting) (who : Who) where
  abbrev Does : Assigned → Holding → List Entry → Option End → Holding → Type 0
  Does own held made end after = TaskRun setting who own.place own.task.work held made end after

  -- a task that broke off, taken at its word
  abbrev Cut : Assigned → Holding → List Entry → Holding → Type 0
  Cut own held made last = (as_told setting).does who own.place own.task.work [] held made None last

  -- a front of a run that is taken at its word
  pub told_front : (all also : List Entry) (held last : Holding) (tasks : List Assigned) (xs ys : List Entry) (ends : List End) → Told setting who all held tasks (xs ++ ys) ends last
      → (ends' : List End) × (last' : Holding) × Told setting who also held tasks xs ends' last'
  told_front all also held last [] xs ys ends run = ([], held, (nil_front xs ys run.0, refl, refl))
    where
      nil_front : (us vs : List Entry) → us ++ vs ≡ [] → us ≡ []
      nil_front [] vs is = refl
      nil_front (u ∷ us) vs is = absurd (cc (is))
  told_front all also held last (own ∷ tasks) xs [] ends (inr (run, none)) =
      ([], last, inr (subst (λ (es : List Entry). Cut own held es last) (append-nil xs) run, refl))
  told_front all also held last (own ∷ tasks) xs (y ∷ ys) ends (inr (run, none)) =
      ([], held, inr ((task_cut setting who own.place own.task.work held last xs y ys None run.0, λ off end later on. task_once setting who own.place own.task.work held later last xs y ys end None on run.0), refl))
  told_front all also held last (own ∷ tasks) xs ys ends (inl (made, others, end, later, next, parts, run, is, go)) =
      elim (parted xs ys made others parts) [
        | alike one two ↦
            let rest = told_front all also next last tasks [] ys later (subst (λ es. Told setting who all next tasks es later last) (sym two) go) in
            (end ∷ rest.0, rest.1, inl (made, [], end, rest.0, next, one ∙ sym (append-nil made), run, refl, rest.2))
        | first_longer w ws one two ↦
            let rest = told_front all also next last tasks (w ∷ ws) ys later (subst (λ es. Told setting who all next tasks es later last) two go) in
            (end ∷ rest.0, rest.1, inl (made, w ∷ ws, end, rest.0, next, one, run, refl, rest.2))
        | second_longer w ws one two ↦
            let whole = subst (λ es. Does own held es (Some end) next) one run.0 in
            ([], held, inr ((task_cut setting who own.place own.task.work held next xs w ws (Some end) whole, λ off last' later' on. task_once setting who own.place own.task.work held later' next xs w ws last' (Some end) on whole), refl))
      ]

-- ---- a phase

module _ (setting : Setting) (number : ℕ) (tasks : List Task) (before : Holdings) where
  -- A worker was played again through a phase's entries, up to a place: what it did before that is taken at its word. At the place, unless
  -- that is the end, stands an entry of its seat with which no run of its tasks goes on.
  pub record Played (made : List Entry) (worker : Worker) : Type 0 where
    pub place : ℕ
    pub within : place ≤ length made
    pub own : List Assigned
    pub are : TasksAt tasks worker.tasks own
    pub ends : List End
    pub last : Holding
    pub run : Told setting (who_of worker) made (holding_of before worker.gateway) own (of_seat worker.seat (take place made)) ends last
    pub bars : (y : Entry) → slice_get made place ≡ Some y → (y.seat ≡ worker.seat)
        × ((all more : List Entry) (others : List End) (left : Holding) → ¬ Did setting (who_of worker) all (holding_of before worker.gateway) own (of_seat worker.seat (take place made) ++ y ∷ more) others left)

  -- a worker's run of some entries, apart from what it leaves
  record One (entries : List Entry) (worker : Worker) : Type 0 where
    own : List Assigned
    are : TasksAt tasks worker.tasks own
    ends : List End
    last : Holding
    run : Told setting (who_of worker) entries (holding_of before worker.gateway) own (of_seat worker.seat entries) ends last

  abbrev ends_of : (entries : List Entry) (ws : List Worker) → AllByRecursion (One entries) ws → List (List End)
  ends_of entries [] all = []
  ends_of entries (w ∷ ws) all = (all.0).ends ∷ ends_of entries ws all.1

  abbrev lasts_of : (entries : List Entry) (ws : List Worker) → AllByRecursion (One entries) ws → List Holding
  lasts_of entries [] all = []
  lasts_of entries (w ∷ ws) all = (all.0).last ∷ lasts_of entries ws all.1

  lasts_long : (entries : List Entry) (ws : List Worker) (all : AllByRecursion (One entries) ws) → length (lasts_of entries ws all) ≡ length ws
  lasts_long entries [] all = refl
  lasts_long entries (w ∷ ws) all = ap (λ n. suc n) (lasts_long entries ws all.1)

  with_left : (entries : List Entry) (after : Holdings) (ws : List Worker) (all : AllByRecursion (One entries) ws) → AllZip (λ w last. (as_told setting).leaves w last after) ws (lasts_of entries ws all)
      → AllZip (WorkerRun (as_told setting) tasks before entries after) ws (ends_of entries ws all)
  with_left entries after [] all left = tt
  with_left entries after (w ∷ ws) all left = (
    record { own = (all.0).own; are = (all.0).are; last = (all.0).last; runs = (all.0).run; leaves = left.0 },
    with_left entries after ws all.1 left.1,
  )

  abbrev pub Sits : Entry → Type 0
  Sits e = Contains (map (λ (w : Worker). w.seat) (workers_of setting.script number)) e.seat ⊎ ⊥

  phase_of : (entries : List Entry) → AllByRecursion (One entries) (workers_of setting.script number) → All Sits entries
      → (ends : List (List End)) × (after : Holdings) × PhaseRun (as_told setting) tasks (workers_of setting.script number) before entries ends after
  phase_of entries all sits =
      let ws = workers_of setting.script number in
      let left = (script_is_cut_well setting).joins number before (lasts_of entries ws all) (lasts_long entries ws all) in
      (ends_of entries ws all, left.0, record { seats = sits; runs = with_left entries left.0 ws all left.1; kept = left.2 })

  -- the entries of a seat before a place are some first ones of those before a later place
  pub seat_front : (made : List Entry) (least place seat : ℕ) → least ≤ place → of_seat seat (take place made) ≡ of_seat seat (take least made) ++ of_seat seat (drop least (take place made))
  seat_front made least place seat le =
      ap (of_seat seat) (sym (take-append-drop least (take place made)) ∙ ap (λ es. es ++ drop least (take place made)) (shorter made least place le)) ∙ seat_parts seat (take least made) (drop least (take place made))

  -- no worker stopped before that place
  abbrev pub AllBelow : (made : List Entry) (least : ℕ) (ws : List Worker) → AllByRecursion (Played made) ws → Type 0
  AllBelow made least [] all = Unit {0}
  AllBelow made least (w ∷ ws) all = (least ≤ (all.0).place) × AllBelow made least ws all.1

  -- before the least place each worker's entries are a run
  fronts : (made : List Entry) (least : ℕ) (ws : List Worker) → (all : AllByRecursion (Played made) ws) → AllBelow made least ws all → AllByRecursion (One (take least made)) ws
  fronts made least [] all below = tt
  fronts made least (w ∷ ws) all below =
      let p = all.0 in
      let cut = told_front setting (who_of w) made (take least made) (holding_of before w.gateway) p.last p.own (of_seat w.seat (take least made)) (of_seat w.seat (drop least (take p.place made))) p.ends
      (subst (λ es. Told setting (who_of w) made (holding_of before w.gateway) p.own es p.ends p.last) (seat_front made least p.place w.seat below.0) p.run) in
      (record { own = p.own; are = p.are; ends = cut.0; last = cut.1; run = cut.2 }, fronts made least ws all.1 below.1)

  -- The front before the least place is a run of the phase.
  pub phase_front : (made : List Entry) (least : ℕ) (all : AllByRecursion (Played made) (workers_of setting.script number)) → AllBelow made least (workers_of setting.script number) all → All Sits (take least made)
      → (ends : List (List End)) × (after : Holdings) × PhaseRun (as_told setting) tasks (workers_of setting.script number) before (take least made) ends after
  phase_front made least all below sits = phase_of (take least made) (fronts made least (workers_of setting.script number) all below) sits

  -- No run of the phase goes on with the entry at which a worker stopped.
  pub phase_barred : (made : List Entry) (worker : Worker) (p : Played made worker) (y : Entry) (more : List Entry) (ends : List (List End)) (after : Holdings) → Contains (workers_of setting.script number) worker
      → slice_get made p.place ≡ Some y → PhaseRun (as_told setting) tasks (workers_of setting.script number) before (take p.place made ++ y ∷ more) ends after → ⊥
  phase_barred made worker p y more ends after among at run =
      let all = take p.place made ++ y ∷ more in
      let mine = AllZip-second (WorkerRun (as_told setting) tasks before all after) (workers_of setting.script number) ends worker run.runs among in
      let r = mine.2 in
      let bar = p.bars y at in
      let same : r.own ≡ p.own = at_tells setting tasks worker.tasks r.own p.own r.are p.are in
      let entries : of_seat worker.seat all ≡ of_seat worker.seat (take p.place made) ++ y ∷ of_seat worker.seat more = seat_parts worker.seat (take p.place made) (y ∷ more) ∙ ap (λ es. of_seat worker.seat (take p.place made) ++ es) (own_first worker.seat y more bar.0) in
      bar.1 all (of_seat worker.seat more) mine.0 r.last
      (untold setting (who_of worker) all (holding_of before worker.gateway) r.last p.own (of_seat worker.seat (take p.place made) ++ y ∷ of_seat worker.seat more) mine.0
      (subst (λ es. Told setting (who_of worker) all (holding_of before worker.gateway) p.own es mine.0 r.last) entries
      (subst (λ own. Told setting (who_of worker) all (holding_of before worker.gateway) own (of_seat worker.seat all) mine.0 r.last) same r.runs)))

  -- ---- fronts of a phase's run

  one_front : (xs ys : List Entry) (after : Holdings) (ws : List Worker) (ends : List (List End)) → AllZip (WorkerRun (as_told setting) tasks before (xs ++ ys) after) ws ends → AllByRecursion (One xs) ws
  one_front xs ys after [] [] all = tt
  one_front xs ys after [] (own ∷ ends) all = absurd all
  one_front xs ys after (w ∷ ws) [] all = absurd all
  one_front xs ys after (w ∷ ws) (own ∷ ends) all =
      let r = all.0 in
      let cut = told_front setting (who_of w) (xs ++ ys) xs (holding_of before w.gateway) r.last r.own (of_seat w.seat xs) (of_seat w.seat ys) own
      (subst (λ es. Told setting (who_of w) (xs ++ ys) (holding_of before w.gateway) r.own es own r.last) (seat_parts w.seat xs ys) r.runs) in
      (record { own = r.own; are = r.are; ends = cut.0; last = cut.1; run = cut.2 }, one_front xs ys after ws ends all.1)

  pub told_phase_front : (xs ys : List Entry) (ends : List (List End)) (after : Holdings) → PhaseRun (as_told setting) tasks (workers_of setting.script number) before (xs ++ ys) ends after
      → (own : List (List End)) × (last : Holdings) × PhaseRun (as_told setting) tasks (workers_of setting.script number) before xs own last
  told_phase_front xs ys ends after run = phase_of xs (one_front xs ys after (workers_of setting.script number) ends run.runs) (All-append_left Sits xs ys run.seats)
