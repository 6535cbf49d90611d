-- Fronts of lawful journals are lawful.
use Rattle.base.proofs.Membership.{of_filter}
use Rattle.base.proofs.Lists.{All-append_right, All-append_left}
use Rattle.std.proofs.lemmas.Bool.{or_parts}
use Rattle.std.proofs.Common.{◌≡◌, ◌≢◌, ◌⊎◌, inl, inr, ℕ, suc, ◌+◌, ◌==◌, true, false, List, [], ◌∷◌, ◌++◌, length, map, Contains, Option, Some, None, refl, sym, ◌∙◌, ap, subst, arith, append-nil}
use Rattle.std.specs.Prelude.{get_or, slice_get}
use Rattle.std.specs.List.{All, AllZip, list_any}
use Rattle.std.proofs.lemmas.Bool.Decides.{nat_tests}
use Rattle.std.proofs.lemmas.List.Elements.{All-cons, All-contains_itself, All-head, All-nil, All-tail, filter-append}
use Rattle.world_core.specs.declared.entry.Entry.{Entry}
use Rattle.script_workers.specs.Hands.{gateway_count, hands_of, same_hand, seats_after, worker_of, workers_from}
use Rattle.script_core.specs.Workers.{seats_before, workers_after, workers_of}
use Rattle.script_workers.specs.declared.hand.Hand.{Hand}
use Rattle.script_workers.specs.declared.hand.Hand.TheVariants as hands
use Rattle.script_workers.specs.declared.phase.Phase.{Phase}
use Rattle.script_workers.specs.declared.task.Task.{Task}
use Rattle.script_workers.specs.declared.worker.Worker.{Worker}
use Rattle.world_core.specs.Journals.{of_seat}
use Rattle.lifecycle_core.specs.Conducts.{Assigned, Conduct, PhaseRun, TasksAt, TasksRun, Who, WorkerRun, who_of}
use Rattle.lifecycle_core.specs.Holdings.{Holding, Holdings, none_held, with_holding}
use Rattle.lifecycle_core.specs.Phases.{IsLawfulJournal, by_script, by_workers}
use Rattle.lifecycle_core.specs.Setting.{Setting}
use Rattle.lifecycle_core.specs.Ways.{PhasesRun, Way}
use Rattle.lifecycle_core.proofs.phases.HandLists.{Apart, joins_from}
use Rattle.script_workers.specs.declared.work.Work.{Work}
use Rattle.lifecycle_core.proofs.phases.FirstPhases.{no_phase}
use Rattle.lifecycle_core.proofs.phases.RunFronts.{task_cut}
use Rattle.lifecycle_core.proofs.deeds.Fronts.{journal_front}
use Rattle.lifecycle_core.proofs.phases.ActingRuns.{is_gateway}

-- ---- two ways to part a list

-- of two fronts of a list one goes on to the other
aligned : {X : Type 0} (xs ys made others : List X) → xs ++ ys ≡ made ++ others
    → ((zs : List X) × (xs ≡ made ++ zs) × (others ≡ zs ++ ys)) ⊎ ((y : X) × (zs : List X) × (made ≡ xs ++ y ∷ zs))
aligned xs ys [] others is = inl (xs, refl, sym is)
aligned [] ys (m ∷ made) others is = inr (m, made, refl)
aligned (x ∷ xs) ys (m ∷ made) others is =
    let same : x ≡ m = cc (is) in
    elim (aligned xs ys made others (cc (is))) [
      | inl (zs, one, two) ↦ inl (zs, cc (same, one), two)
      | inr (y, zs, one) ↦ inr (y, zs, cc (same, one))
    ]

nil_front : {X : Type 0} (xs ys : List X) → xs ++ ys ≡ [] → xs ≡ []
nil_front [] ys is = refl
nil_front (x ∷ xs) ys is = absurd (cc (is))

pub seat_parts : (seat : ℕ) (xs ys : List Entry) → of_seat seat (xs ++ ys) ≡ of_seat seat xs ++ of_seat seat ys
seat_parts seat xs ys = filter-append (λ (e : Entry). e.seat == seat) xs ys

-- ---- a conduct

-- What a conduct has to be like, so that each front of a phase's run is one: a front of a task's run is a run without an end, and
-- what happens later in the phase does not matter; and whatever workers leave, there are states after the phase.
pub record IsCutWell {State E : Type 0} (conduct : Conduct State E) : Type 0 where
  pub cut : (who : Who) (place : ℕ) (w : Work) (front back : List Entry) (before after : State) (xs : List Entry) (y : Entry) (rest : List Entry) (end : Option E) → All (Contains front) xs
      → conduct.does who place w (front ++ back) before (xs ++ y ∷ rest) end after → (left : State) × conduct.does who place w front before xs None left
  pub whole : (who : Who) (place : ℕ) (w : Work) (front back : List Entry) (before after : State) (made : List Entry) (end : Option E) → All (Contains front) made
      → conduct.does who place w (front ++ back) before made end after → conduct.does who place w front before made end after
  pub joins : (number : ℕ) (before : ℕ → State) (lasts : List State) → length lasts ≡ length (conduct.workers number)
      → (after : ℕ → State) × AllZip (λ w last. conduct.leaves w last after) (conduct.workers number) lasts
      × ((gateway : ℕ) → All (λ (w : Worker). w.gateway ≢ Some gateway) (conduct.workers number) → after gateway ≡ before gateway)

module _ {State E : Type 0} (conduct : Conduct State E) (well : IsCutWell conduct) where
  -- ---- a worker's tasks

  abbrev TasksCut : Who → List Entry → State → List Assigned → List Entry → Type 0
  TasksCut who all before tasks entries = (ends : List E) × (last : State) × TasksRun conduct who all before tasks entries ends last

  unended : (who : Who) (all : List Entry) (before : State) (own : Assigned) (tasks : List Assigned) (entries : List Entry) → (last : State) × conduct.does who own.place own.task.work all before entries None last → TasksCut who all before (own ∷ tasks) entries
  unended who all before own tasks entries (last, run) = ([], last, inr (run, refl))

  cut_or_whole : (who : Who) (front back : List Entry) (before last : State) (own : Assigned) (tasks : List Assigned) (xs ys : List Entry) → All (Contains front) xs
      → conduct.does who own.place own.task.work (front ++ back) before (xs ++ ys) None last → TasksCut who front before (own ∷ tasks) xs
  cut_or_whole who front back before last own tasks xs [] inside run =
      unended who front before own tasks xs (last, well.whole who own.place own.task.work front back before last xs None inside (subst (λ es. conduct.does who own.place own.task.work (front ++ back) before es None last) (append-nil xs) run))
  cut_or_whole who front back before last own tasks xs (y ∷ ys) inside run = unended who front before own tasks xs (well.cut who own.place own.task.work front back before last xs y ys None inside run)

  tasks_front : (who : Who) (front back : List Entry) (before : State) (tasks : List Assigned) (xs ys : List Entry) (ends : List E) (last : State) → All (Contains front) xs
      → TasksRun conduct who (front ++ back) before tasks (xs ++ ys) ends last → TasksCut who front before tasks xs
  tasks_front who front back before [] xs ys ends last inside (nil, none, same) = ([], before, (nil_front xs ys nil, refl, refl))
  tasks_front who front back before (own ∷ tasks) xs ys ends last inside (inl (made, others, end, later, next, parts, run, is, rest)) =
      elim (aligned xs ys made others parts) [
        | inl (zs, one, two) ↦
            let both : All (Contains front) (made ++ zs) = subst (All (Contains front)) one inside in
            let tail = tasks_front who front back next tasks zs ys later last (All-append_right (Contains front) made zs both) (subst (λ es. TasksRun conduct who (front ++ back) next tasks es later last) two rest) in
            (end ∷ tail.0, tail.1, inl (made, zs, end, tail.0, next, one, well.whole who own.place own.task.work front back before next made (Some end) (All-append_left (Contains front) made zs both) run, refl, tail.2))
        | inr (y, zs, one) ↦
            unended who front before own tasks xs (well.cut who own.place own.task.work front back before next xs y zs (Some end) inside (subst (λ es. conduct.does who own.place own.task.work (front ++ back) before es (Some end) next) one run))
      ]
  tasks_front who front back before (own ∷ tasks) xs ys ends last inside (inr (run, none)) = cut_or_whole who front back before last own tasks xs ys inside run

  -- ---- a phase

  -- a worker's run, apart from what it leaves
  record Ran (tasks : List Task) (before : ℕ → State) (entries : List Entry) (worker : Worker) (ends : List E) (last : State) : Type 0 where
    own : List Assigned
    are : TasksAt tasks worker.tasks own
    runs : TasksRun conduct (who_of worker) entries (conduct.opens before worker) own (of_seat worker.seat entries) ends last

  abbrev AllRan : List Task → (ℕ → State) → List Entry → List Worker → List (List E) → List State → Type 0
  AllRan tasks before entries [] [] [] = Unit {0}
  AllRan tasks before entries (w ∷ ws) (own ∷ ends) (last ∷ lasts) = Ran tasks before entries w own last × AllRan tasks before entries ws ends lasts
  AllRan tasks before entries ws ends lasts = ⊥

  workers_front : (tasks : List Task) (before : ℕ → State) (xs ys : List Entry) (after : ℕ → State) (ws : List Worker) (ends : List (List E)) → AllZip (WorkerRun conduct tasks before (xs ++ ys) after) ws ends
      → (ends' : List (List E)) × (lasts : List State) × (length lasts ≡ length ws) × AllRan tasks before xs ws ends' lasts
  workers_front tasks before xs ys after [] [] all = ([], [], refl, tt)
  workers_front tasks before xs ys after [] (own ∷ ends) all = absurd all
  workers_front tasks before xs ys after (w ∷ ws) [] all = absurd all
  workers_front tasks before xs ys after (w ∷ ws) (own ∷ ends) all =
      let run = all.0 in
      let inside : All (Contains xs) (of_seat w.seat xs) = λ k d below. of_filter (λ (e : Entry). e.seat == w.seat) xs (get_or (of_seat w.seat xs) k d) (All-contains_itself (of_seat w.seat xs) k d below) in
      let cut = tasks_front (who_of w) xs ys (conduct.opens before w) run.own (of_seat w.seat xs) (of_seat w.seat ys) own run.last inside
      (subst (λ es. TasksRun conduct (who_of w) (xs ++ ys) (conduct.opens before w) run.own es own run.last) (seat_parts w.seat xs ys) run.runs) in
      let rest = workers_front tasks before xs ys after ws ends all.1 in
      (cut.0 ∷ rest.0, cut.1 ∷ rest.1, ap suc rest.2, (record { own = run.own; are = run.are; runs = cut.2 }, rest.3))

  -- with states that agree with what is left, each run is a worker's
  with_left : (tasks : List Task) (before : ℕ → State) (entries : List Entry) (after : ℕ → State) (ws : List Worker) (ends : List (List E)) (lasts : List State) → AllRan tasks before entries ws ends lasts
      → AllZip (λ w last. conduct.leaves w last after) ws lasts → AllZip (WorkerRun conduct tasks before entries after) ws ends
  with_left tasks before entries after [] [] [] all left = tt
  with_left tasks before entries after [] [] (last ∷ lasts) all left = tt
  with_left tasks before entries after [] (own ∷ ends) lasts all left = absurd all
  with_left tasks before entries after (w ∷ ws) [] lasts all left = absurd all
  with_left tasks before entries after (w ∷ ws) (own ∷ ends) [] all left = absurd all
  with_left tasks before entries after (w ∷ ws) (own ∷ ends) (last ∷ lasts) all left = (
    record { own = (all.0).own; are = (all.0).are; last = last; runs = (all.0).runs; leaves = left.0 },
    with_left tasks before entries after ws ends lasts all.1 left.1,
  )

  phase_front : (number : ℕ) (phase : Phase) (before : ℕ → State) (xs ys : List Entry) (ends : List (List E)) (after : ℕ → State) → PhaseRun conduct phase.tasks (conduct.workers number) before (xs ++ ys) ends after
      → (ends' : List (List E)) × (after' : ℕ → State) × PhaseRun conduct phase.tasks (conduct.workers number) before xs ends' after'
  phase_front number phase before xs ys ends after run =
      let cut = workers_front phase.tasks before xs ys after (conduct.workers number) ends run.runs in
      let left = well.joins number before cut.1 cut.2 in (
        cut.0,
        left.0,
        record {
          seats = All-append_left (λ (e : Entry). Contains (map (λ (w : Worker). w.seat) (conduct.workers number)) e.seat ⊎ conduct.bystands e) xs ys run.seats;
          runs = with_left phase.tasks before xs left.0 (conduct.workers number) cut.0 cut.1 cut.3 left.1;
          kept = left.2;
        },
      )

-- ---- phases

module _ {State Ends : Type 0} (way : Way State Ends)
    (works_front : (number : ℕ) (phase : Phase) (before : ℕ → State) (xs ys : List Entry) (ends : Ends) (after : ℕ → State) → way.works number phase before (xs ++ ys) ends after
    → (ends' : Ends) × (after' : ℕ → State) × way.works number phase before xs ends' after') where
  abbrev PhasesCut : ℕ → (ℕ → State) → List Phase → List Entry → Type 0
  PhasesCut number before phases entries = (ends : List Ends) × PhasesRun way number before phases entries ends

  unbegun : (number : ℕ) (before : ℕ → State) (phases : List Phase) (xs : List Entry) → xs ≡ [] → PhasesCut number before phases xs
  unbegun number before phases xs nil = ([], subst (λ es. PhasesRun way number before phases es []) (sym nil) (no_phase way number before phases))

  pub phases_front : (number : ℕ) (before : ℕ → State) (phases : List Phase) (xs ys : List Entry) (ends : List Ends) → PhasesRun way number before phases (xs ++ ys) ends → PhasesCut number before phases xs
  phases_front number before [] xs ys ends run = unbegun number before [] xs (nil_front xs ys run.0)
  phases_front number before (phase ∷ phases) xs ys ends (inl none) = unbegun number before (phase ∷ phases) xs (nil_front xs ys none.0)
  phases_front number before (phase ∷ phases) [] ys ends (inr r) = unbegun number before (phase ∷ phases) [] refl
  phases_front number before (phase ∷ phases) (x ∷ xs) ys ends (inr (clock, made, others, first, later, after, parts, begins, run, are, go)) =
      let same : x ≡ clock = cc (parts) in
      elim (aligned xs ys made others (cc (parts))) [
        | inl (zs, one, two) ↦
            let rest = phases_front (number + 1) after phases zs ys later (subst (λ es. PhasesRun way (number + 1) after phases es later) two go) in
            (first ∷ rest.0, inr (clock, made, zs, first, rest.0, after, cc (same, one), begins, run, refl, rest.1))
        | inr (y, zs, one) ↦
            let cut = works_front number phase before xs (y ∷ zs) first after (subst (λ es. way.works number phase before es first after) one run) in
            (cut.0 ∷ [], inr (clock, xs, [], cut.0, [], cut.1, cc (same, append-nil xs), begins, cut.2, refl, no_phase way (number + 1) cut.1 phases))
      ]

-- ---- no two workers of a phase are of one gateway

abbrev pub AreApart : List Worker → Type 0
AreApart [] = Unit {0}
AreApart (w ∷ ws) = ((gateway : ℕ) → w.gateway ≡ Some gateway → All (λ (x : Worker). x.gateway ≢ Some gateway) ws) × AreApart ws

same_gateways : (gateway : ℕ) (hand : Hand) → hand ≡ hands.Gateway gateway → same_hand (hands.Gateway gateway) hand ≡ true
same_gateways gateway hand is = subst (λ (h : Hand). same_hand (hands.Gateway gateway) h ≡ true) (sym is) (grind (arith, nat_tests))

others_apart : (gateways before gateway : ℕ) (tasks : List Task) (hs : List Hand) → list_any (same_hand (hands.Gateway gateway)) hs ≡ false → All (λ (x : Worker). x.gateway ≢ Some gateway) (workers_from gateways before tasks hs)
unfolding workers_from
others_apart gateways before gateway tasks [] none = All-nil (λ (x : Worker). x.gateway ≢ Some gateway)
others_apart gateways before gateway tasks (hand ∷ hs) none =
    let parts = or_parts (same_hand (hands.Gateway gateway) hand) (list_any (same_hand (hands.Gateway gateway)) hs) none in
    All-cons (λ (x : Worker). x.gateway ≢ Some gateway) (worker_of gateways (seats_after before 1) hand tasks) (workers_from gateways (seats_after before 1) tasks hs)
    (λ is. let same = same_gateways gateway hand (is_gateway hand gateway is) in cc (same, parts.0)) (others_apart gateways (seats_after before 1) gateway tasks hs parts.1)

workers_apart : (gateways before : ℕ) (tasks : List Task) (hs : List Hand) → Apart hs → AreApart (workers_from gateways before tasks hs)
unfolding workers_from
workers_apart gateways before tasks [] apart = tt
workers_apart gateways before tasks (hand ∷ hs) apart = (
  λ gateway is. others_apart gateways (seats_after before 1) gateway tasks hs (subst (λ (h : Hand). list_any (same_hand h) hs ≡ false) (is_gateway hand gateway is) apart.0),
  workers_apart gateways (seats_after before 1) tasks hs apart.1,
)

apart_after : (setting : Setting) (before : ℕ) (o : Option Phase) → AreApart (workers_after setting.script before o)
apart_after setting before None = tt
apart_after setting before (Some phase) =
    let gateways = gateway_count setting.script.gateways in
    workers_apart gateways before phase.tasks (hands_of gateways phase.tasks) ((joins_from (λ (h : Hand). Unit {0}) gateways [] 0 phase.tasks).apart tt)

pub apart_of : (setting : Setting) (number : ℕ) → AreApart (workers_of setting.script number)
apart_of setting number = apart_after setting (seats_before setting.script number) (slice_get setting.script.phases number)

-- ---- what the script's workers leave

-- what each worker leaves, over what gateways held before
abbrev left_by : List Worker → List Holding → Holdings → Holdings
left_by [] lasts views = views
left_by (w ∷ ws) [] views = views
left_by (w ∷ ws) (last ∷ lasts) views = with_holding (left_by ws lasts views) w.gateway last

own_view : (views : Holdings) (o : Option ℕ) (gateway : ℕ) (used : Holding) → o ≡ Some gateway → with_holding views o used gateway ≡ used
own_view views None gateway used is = absurd (cc (is))
own_view views (Some own) gateway used is =
    let same : own ≡ gateway = cc (is) in let e : (gateway == own) ≡ true = grind (arith, nat_tests, same) in rw e refl

other_view : (views : Holdings) (o : Option ℕ) (gateway : ℕ) (used : Holding) → o ≢ Some gateway → with_holding views o used gateway ≡ views gateway
other_view views None gateway used differ = refl
other_view views (Some own) gateway used differ =
    let apart : own ≢ gateway = λ is. differ (ap (λ n. Some n) is) in let e : (gateway == own) ≡ false = grind (arith, nat_tests, apart) in rw e refl

-- a gateway without a worker keeps its view
kept_by : (views : Holdings) (ws : List Worker) (lasts : List (Holding)) (gateway : ℕ) → All (λ (w : Worker). w.gateway ≢ Some gateway) ws → left_by ws lasts views gateway ≡ views gateway
kept_by views [] lasts gateway none = refl
kept_by views (w ∷ ws) [] gateway none = refl
kept_by views (w ∷ ws) (last ∷ lasts) gateway none =
    other_view (left_by ws lasts views) w.gateway gateway last (All-head (λ (x : Worker). x.gateway ≢ Some gateway) w ws none)
    ∙ kept_by views ws lasts gateway (All-tail (λ (x : Worker). x.gateway ≢ Some gateway) w ws none)

-- a worker leaves what it holds last
abbrev Left : Holdings → Worker → Holding → Type 0
Left after w last = (gateway : ℕ) → w.gateway ≡ Some gateway → after gateway ≡ last

-- another worker's holding in front changes nothing for those that are apart from it
agree_more : (after : Holdings) (o : Option ℕ) (used : Holding) (ws : List Worker) (lasts : List Holding) → ((gateway : ℕ) → o ≡ Some gateway → All (λ (x : Worker). x.gateway ≢ Some gateway) ws) → AllZip (Left after) ws lasts → AllZip (Left (with_holding after o used)) ws lasts
agree_more after o used [] [] apart own = tt
agree_more after o used [] (last ∷ lasts) apart own = absurd own
agree_more after o used (w ∷ ws) [] apart own = absurd own
agree_more after o used (w ∷ ws) (last ∷ lasts) apart own = (
  λ gateway is. other_view after o gateway used (λ same. All-head (λ (x : Worker). x.gateway ≢ Some gateway) w ws (apart gateway same) is) ∙ own.0 gateway is,
  agree_more after o used ws lasts (λ gateway same. All-tail (λ (x : Worker). x.gateway ≢ Some gateway) w ws (apart gateway same)) own.1,
)

agrees : (views : Holdings) (ws : List Worker) (lasts : List Holding) → length lasts ≡ length ws → AreApart ws → AllZip (Left (left_by ws lasts views)) ws lasts
agrees views [] [] long apart = tt
agrees views [] (last ∷ lasts) long apart = absurd (omega (arith, long))
agrees views (w ∷ ws) [] long apart = absurd (omega (arith, long))
agrees views (w ∷ ws) (last ∷ lasts) long apart = (
  λ gateway is. own_view (left_by ws lasts views) w.gateway gateway last is,
  agree_more (left_by ws lasts views) w.gateway last ws lasts apart.0 (agrees views ws lasts (omega (arith, long)) apart.1),
)

pub script_is_cut_well : (setting : Setting) → IsCutWell (by_script setting)
script_is_cut_well setting = record {
  cut = λ who place w front back before after xs y rest end inside run. (before, task_cut setting who place w before after xs y rest end run);
  whole = λ who place w front back before after made end inside run. run;
  joins = λ number before lasts long. (
    left_by (workers_of setting.script number) lasts before,
    agrees before (workers_of setting.script number) lasts long (apart_of setting number),
    λ gateway none. kept_by before (workers_of setting.script number) lasts gateway none,
  );
}

-- ---- journals

pub front_is_lawful : (setting : Setting) (front others : List Entry) → IsLawfulJournal setting (front ++ others) → IsLawfulJournal setting front
front_is_lawful setting front others (ends, run) =
    let cut = phases_front (by_workers setting) (phase_front (by_script setting) (script_is_cut_well setting)) 0 none_held setting.script.phases front others ends run.phases in
    (cut.0, record { kept = journal_front setting.script.rules.tick.ms front others run.kept; phases = cut.1 })
