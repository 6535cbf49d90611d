-- In an acting journal each seat does one deed, and no two compactions are under way at once.
use Rattle.std.proofs.Common.{◌≡◌, ◌≢◌, ◌⊎◌, inl, inr, ℕ, zero, suc, ◌+◌, ◌<◌, ◌≤◌, ◌==◌, Bool, true, false, List, [], ◌∷◌, ◌++◌, length, map, Contains, Option, Some, None, refl, sym, ◌∙◌, ap, subst, append-nil, arith}
use Rattle.std.specs.Prelude.{get_or, is_none, slice_get}
use Rattle.std.specs.List.{All, IsDistinct, filter}
use Rattle.std.specs.List.Sorted.{IsStrictlySortedBy}
use Rattle.std.specs.Ordering.{nat_cmp}
use Rattle.std.proofs.lemmas.Bool.Decides.{nat_tests}
use Rattle.std.proofs.lemmas.List.Elements.{All-contains, All-contains_itself, All-nil, All-weaker, Contains-append_right, filter-append}
use Rattle.std.proofs.lemmas.Map.Keys.{below_from_sorted}
use Rattle.std.proofs.lemmas.Option.{get_or_from_slice_get, slice_get_within}
use Rattle.std.proofs.lemmas.Bool.{eq-eqb}
use Rattle.base.proofs.Lists.{filter_none, slice_get-below}
use Rattle.base.proofs.Membership.{contains_first, contains_later, contains_place, each_member, into_filter, into_flat_map, into_map, member_cases, member_passes, no_member, of_filter, of_map, only_member, place_of_member}
use Rattle.base.proofs.Pairs.{AllZip-second}
use Rattle.world_core.specs.declared.op.Op.{Op}
use Rattle.world_core.specs.declared.op.Op.TheVariants as op
use Rattle.world_core.specs.declared.entry.Entry.{Entry}
use Rattle.world_core.proofs.PlanLaws.{breaks_off}
use Rattle.moment_core.specs.declared.moment.Moment.{Moment}
use Rattle.world_core.specs.Plans.{Runs}
use Rattle.shipper.specs.Uploads.{upload}
use Rattle.compactor.specs.Compactions.{CompactRun, compaction}
use Rattle.compactor.specs.declared.compact_end.CompactEnd.{CompactEnd}
use Rattle.cleaner.specs.Cleanings.{CleanRun, cleaning}
use Rattle.cleaner.specs.declared.clean.CleanEnd.{CleanEnd}
use Rattle.script_workers.specs.Hands.{gateway_count, gateway_of, hands_of, same_hand}
use Rattle.script_workers.specs.Staff.{IsWorkerOf}
use Rattle.script_workers.specs.Whose.{IsFor, IsTaskOf, does_alone, asks, syncs}
use Rattle.script_workers.specs.Works.{CompactOnce, is_compaction, works_in, works_of}
use Rattle.script_workers.proofs.StaffLaws.{is_staff}
use Rattle.script_workers.specs.declared.hand.Hand.{Hand}
use Rattle.script_workers.specs.declared.hand.Hand.TheVariants as hands
use Rattle.script_workers.specs.declared.phase.Phase.{Phase}
use Rattle.script_workers.specs.declared.task.Task.{Task}
use Rattle.script_workers.specs.declared.work.Work.{Work}
use Rattle.script_workers.specs.declared.work.Work.TheVariants.{Upload, Sync, Compact, Clean, Query}
use Rattle.script_workers.specs.declared.worker.Worker.{Worker}
use Rattle.script_core.proofs.SeatLaws.{are_seated}
use Rattle.script_core.specs.Lawful.{IsLawfulPhase, IsLawfulScript}
use Rattle.script_core.specs.Workers.{workers_before, workers_of}
use Rattle.script_core.specs.declared.block.Block.{Block}
use Rattle.lifecycle_core.specs.Acting.{IsActing, IsActorSeat, IsCompactorAt, IsReading, acting, actors}
use Rattle.lifecycle_core.specs.Breaches.{IsCompactorSeat}
use Rattle.world_core.specs.Journals.{of_seat}
use Rattle.lifecycle_core.specs.Conducts.{Assigned, Conduct, PhaseRun, TasksAt, TasksRun, Who, WorkerRun, who_of, working}
use Rattle.lifecycle_core.specs.Held.{declared}
use Rattle.lifecycle_core.specs.Holdings.{Holding, Holdings, none_held, nothing_held}
use Rattle.lifecycle_core.specs.Quiet.{CompactsNothing, DeletesNothing}
use Rattle.lifecycle_core.specs.Setting.{Setting}
use Rattle.lifecycle_core.specs.Tasks.{End, ShipTask, TaskRun}
use Rattle.lifecycle_core.specs.Ways.{BeginsPhase, PhasesRun}
use Rattle.lifecycle_core.proofs.blocks.Declared.{declared_ulid}
use Rattle.lifecycle_core.proofs.deeds.Words.{AreBefore, AreDeeds, Cleans, Compacts, Deed, IsClock, ships as ships_deed, compacts as compacts_deed, cleans as cleans_deed, reads as reads_deed, clocks as clocks_deed}
use Rattle.lifecycle_core.proofs.journals.Rising.{journal_rises}
use Rattle.lifecycle_core.proofs.journals.Told.{Rises}
use Rattle.lifecycle_core.proofs.phases.EachEntry.{phases_each}
use Rattle.lifecycle_core.proofs.phases.OneSeat.{one_phase, one_worker}
use Rattle.lifecycle_core.proofs.phases.Stretches.{rises_right}
use Rattle.lifecycle_core.proofs.phases.Acted.{no_gateway}

-- ---- lists

-- what ascends and is one place alone is that place, or nothing
one_at_most : (place : ℕ) (places : List ℕ) → ((q : ℕ) → Contains places q → q ≡ place) → IsStrictlySortedBy nat_cmp places → (places ≡ []) ⊎ (places ≡ place ∷ [])
one_at_most place [] same ascend = inl refl
one_at_most place (q ∷ []) same ascend = inr (ap (λ (x : ℕ). x ∷ []) (same q (contains_first q [])))
one_at_most place (q ∷ r ∷ places) same ascend =
    let less : q < r = below_from_sorted (q ∷ r ∷ places) 0 1 0 ascend (omega arith) (omega arith) in
    absurd (omega (arith, less, same q (contains_first q (r ∷ places)), same r (contains_later q r (r ∷ places) (contains_first r places))))

-- none has this seat, so none is its
pub none_of_seat : (seat : ℕ) (entries : List Entry) → ((e : Entry) → Contains entries e → e.seat ≢ seat) → of_seat seat entries ≡ []
none_of_seat seat entries others =
    filter_none (λ (x : Entry). x.seat == seat) entries
    (All-weaker (Contains entries) (λ (x : Entry). (x.seat == seat) ≡ false) (λ x among. let other = others x among in grind (arith, nat_tests, other)) entries (All-contains_itself entries))

pub other_first : (seat : ℕ) (e : Entry) (entries : List Entry) → e.seat ≢ seat → of_seat seat (e ∷ entries) ≡ of_seat seat entries
other_first seat e entries other =
    let test : (e.seat == seat) ≡ false = grind (arith, nat_tests, other) in rw test refl

-- the entries of a seat that is not the clock's
pub parted : (seat : ℕ) (clock : Entry) (made others entries : List Entry) → entries ≡ clock ∷ made ++ others → clock.seat ≢ seat → of_seat seat entries ≡ of_seat seat made ++ of_seat seat others
parted seat clock made others entries parts other =
    ap (of_seat seat) parts ∙ other_first seat clock (made ++ others) other ∙ filter-append (λ (x : Entry). x.seat == seat) made others

-- each of those that rise is before each behind it
pub rises_apart : (front back : List Entry) → Rises (front ++ back) → (x y : Entry) → Contains front x → Contains back y → x.seq < y.seq
rises_apart [] back rises x y one other = absurd (no_member x one)
rises_apart (e ∷ front) back rises x y one other = elim (member_cases e x front one) [
  | inl same ↦
      let follows = All-contains (λ (z : Entry). (e.seq < z.seq) × (e.moment.ms ≤ z.moment.ms)) (front ++ back) y rises.0 (Contains-append_right front back y other) in
      subst (λ (z : Entry). z.seq < y.seq) same follows.0
  | inr later ↦ rises_apart front back rises.1 x y later other
]

-- where a member of a list without repeats stands is one place
distinct_place : {X : Type 0} (same : X → X → Bool) (xs : List X) (x : X) (i j : ℕ) → same x x ≡ true → IsDistinct same xs → slice_get xs i ≡ Some x → slice_get xs j ≡ Some x → i ≡ j
unfolding IsDistinct
distinct_place same [] x i j self apart one two = absurd (cc (one))
distinct_place same (y ∷ ys) x zero zero self apart one two = refl
distinct_place same (y ∷ ys) x zero (suc j) self apart one two =
    let is : y ≡ x = cc (one) in
    let differ : same y x ≡ false = each_member (λ z. same y z ≡ false) ys x apart.0 (contains_place ys j x two) in
    absurd (cc (is, differ, self))
distinct_place same (y ∷ ys) x (suc i) zero self apart one two =
    let is : y ≡ x = cc (two) in
    let differ : same y x ≡ false = each_member (λ z. same y z ≡ false) ys x apart.0 (contains_place ys i x one) in
    absurd (cc (is, differ, self))
distinct_place same (y ∷ ys) x (suc i) (suc j) self apart one two = ap suc (distinct_place same ys x i j self apart.1 one two)

pub trichotomy : (n m : ℕ) → (n < m) ⊎ ((m < n) ⊎ (n ≡ m))
trichotomy zero zero = inr (inr refl)
trichotomy zero (suc m) = inl (omega arith)
trichotomy (suc n) zero = inr (inl (omega arith))
trichotomy (suc n) (suc m) = elim (trichotomy n m) [
  | inl less ↦ inl (omega (arith, less))
  | inr rest ↦ elim rest [
    | inl more ↦ inr (inl (omega (arith, more)))
    | inr same ↦ inr (inr (ap suc same))
  ]
]

same_hand_itself : (place : ℕ) → same_hand (hands.Alone place) (hands.Alone place) ≡ true
same_hand_itself place = eq-eqb place place refl

-- ---- hands and their works

alone_hand : (hand : Hand) → gateway_of hand ≡ None → (place : ℕ) × (hand ≡ hands.Alone place)
alone_hand (hands.Alone place) is = (place, refl)
alone_hand (hands.Gateway gateway) is = absurd (cc (is))

-- who acts alone has one place
alone_place : (gateways place q : ℕ) (w : Work) → IsFor gateways (hands.Alone place) q w → q ≡ place
alone_place gateways place q w (does_alone none apart who) = let same : place ≡ q = cc (who) in sym same
alone_place gateways place q w (syncs own is who) = absurd (cc (who))
alone_place gateways place q w (asks own is who below) = absurd (cc (who))

-- the works that have a worker of their own
abbrev IsAlone : Work → Type 0
IsAlone (Upload ulid stop) = Unit {0}
IsAlone (Sync gateway) = ⊥
IsAlone (Compact stop) = Unit {0}
IsAlone (Clean stop) = Unit {0}
IsAlone (Query low high selector) = ⊥

alone_work : (gateways place q : ℕ) (w : Work) → IsFor gateways (hands.Alone place) q w → IsAlone w
alone_work gateways place q (Upload ulid stop) (does_alone none apart who) = tt
alone_work gateways place q (Compact stop) (does_alone none apart who) = tt
alone_work gateways place q (Clean stop) (does_alone none apart who) = tt
alone_work gateways place q (Sync gateway) (does_alone none apart who) = apart gateway refl
alone_work gateways place q (Query low high selector) (does_alone none apart who) = cc (none)
alone_work gateways place q w (syncs own is who) = absurd (cc (who))
alone_work gateways place q w (asks own is who below) = absurd (cc (who))

-- whoever compacts has no gateway
compacts_alone : (gateways : ℕ) (hand : Hand) (q : ℕ) (stop : Option ℕ) → IsFor gateways hand q (Compact stop) → gateway_of hand ≡ None
compacts_alone gateways hand q stop (does_alone none apart who) = ap gateway_of who
compacts_alone gateways hand q stop (syncs own is who) = absurd (cc (is))
compacts_alone gateways hand q stop (asks own is who below) = absurd (cc (is))

-- ---- what a task's run is

abbrev pub Compacting : Work → Type 0
Compacting w = (stop : Option ℕ) × (w ≡ Compact stop)

abbrev Cleaning : Work → Type 0
Cleaning w = (stop : Option ℕ) × (w ≡ Clean stop)

-- the entries of a task are a deed of its kind
record TaskDeed (setting : Setting) (entries : List Entry) (w : Work) : Type 0 where
  deed : Deed setting entries
  compacting : Compacts deed → Compacting w
  cleaning : Cleans deed → Cleaning w
  of_compaction : Compacting w → Compacts deed

no_reads : (setting : Setting) (entries : List Entry) → entries ≡ [] → All (λ (e : Entry). IsReading e.op) entries
no_reads setting entries nil = subst (All (λ (e : Entry). IsReading e.op)) (sym nil) (All-nil (λ (e : Entry). IsReading e.op))

upload_none : (setting : Setting) (entries : List Entry) (ulid : ℕ) (stop : Option ℕ) → entries ≡ [] → TaskDeed setting entries (Upload ulid stop)
upload_none setting entries ulid stop nil = record {
  deed = reads_deed (no_reads setting entries nil);
  compacting = λ none. absurd none;
  cleaning = λ none. absurd none;
  of_compaction = λ other. let is : Upload ulid stop ≡ Compact other.0 = other.1 in absurd (cc (is));
}

upload_deed : (setting : Setting) (entries : List Entry) (ulid : ℕ) (stop : Option ℕ) (block : Block) (end : Option End) → declared setting.script ulid ≡ Some block → ShipTask setting block stop entries end → TaskDeed setting entries (Upload ulid stop)
upload_deed setting entries ulid stop block end is (inl (objects, own, shipped, run, how)) = record {
  deed = ships_deed ulid block objects own is shipped (subst (λ (u : ℕ). Runs (upload u objects) entries own) (declared_ulid setting ulid block is) run);
  compacting = λ none. absurd none;
  cleaning = λ none. absurd none;
  of_compaction = λ other. let same : Upload ulid stop ≡ Compact other.0 = other.1 in absurd (cc (same));
}
upload_deed setting entries ulid stop block end is (inr (inl (cause, none, (nil, how)))) = upload_none setting entries ulid stop nil
upload_deed setting entries ulid stop block end is (inr (inr (nil, none))) = upload_none setting entries ulid stop nil

compaction_deed : (setting : Setting) (entries : List Entry) (stop : Option ℕ) (own : Option CompactEnd) → CompactRun setting.script.rules entries own → TaskDeed setting entries (Compact stop)
compaction_deed setting entries stop own run = record {
  deed = compacts_deed own run;
  compacting = λ yes. (stop, refl);
  cleaning = λ none. absurd none;
  of_compaction = λ is. tt;
}

cleaning_deed : (setting : Setting) (entries : List Entry) (stop : Option ℕ) (own : Option CleanEnd) → CleanRun setting.script.rules entries own → TaskDeed setting entries (Clean stop)
cleaning_deed setting entries stop own run = record {
  deed = cleans_deed own run;
  compacting = λ none. absurd none;
  cleaning = λ yes. (stop, refl);
  of_compaction = λ other. let same : Clean stop ≡ Compact other.0 = other.1 in absurd (cc (same));
}

task_deed : (setting : Setting) (who : Who) (place : ℕ) (w : Work) → IsAlone w → (before after : Holding) (entries : List Entry) (end : Option End) → TaskRun setting who place w before entries end after → TaskDeed setting entries w
task_deed setting who place (Upload ulid stop) alone before after entries end ((block, is, ship), left) = upload_deed setting entries ulid stop block end is ship
task_deed setting who place (Sync gateway) alone before after entries end run = absurd alone
task_deed setting who place (Compact stop) alone before after entries end ((own, run, how), left) = compaction_deed setting entries stop own run
task_deed setting who place (Clean stop) alone before after entries end ((own, run, how), left) = cleaning_deed setting entries stop own run
task_deed setting who place (Query low high selector) alone before after entries end run = absurd alone

-- a task that was not begun
idle_deed : (setting : Setting) (w : Work) → IsAlone w → TaskDeed setting [] w
idle_deed setting (Upload ulid stop) alone = upload_none setting [] ulid stop refl
idle_deed setting (Sync gateway) alone = absurd alone
idle_deed setting (Compact stop) alone = compaction_deed setting [] stop None (breaks_off (compaction setting.script.rules))
idle_deed setting (Clean stop) alone = cleaning_deed setting [] stop None (breaks_off (cleaning setting.script.rules))
idle_deed setting (Query low high selector) alone = absurd alone

-- ---- what a worker's tasks are

-- one of these tasks, at one of these places, is such a work
abbrev HasTask : List Task → List ℕ → (Work → Type 0) → Type 0
HasTask tasks places Is = (place : ℕ) × (task : Task) × Contains places place × (slice_get tasks place ≡ Some task) × Is task.work

record WorkerDeed (setting : Setting) (tasks : List Task) (places : List ℕ) (entries : List Entry) : Type 0 where
  deed : Deed setting entries
  compacting : Compacts deed → HasTask tasks places Compacting
  cleaning : Cleans deed → HasTask tasks places Cleaning
  of_compaction : HasTask tasks places Compacting → Compacts deed

no_tasks : (setting : Setting) (tasks : List Task) (places : List ℕ) (entries : List Entry) → places ≡ [] → entries ≡ [] → WorkerDeed setting tasks places entries
no_tasks setting tasks places entries none nil = record {
  deed = reads_deed (no_reads setting entries nil);
  compacting = λ other. absurd other;
  cleaning = λ other. absurd other;
  of_compaction = λ has. absurd (no_member has.0 (subst (λ (ps : List ℕ). Contains ps has.0) none has.2));
}

one_task : (setting : Setting) (tasks : List Task) (places : List ℕ) (place : ℕ) (task : Task) (entries : List Entry) → places ≡ place ∷ [] → slice_get tasks place ≡ Some task → TaskDeed setting entries task.work → WorkerDeed setting tasks places entries
one_task setting tasks places place task entries one at own =
    let inside : Contains places place = subst (λ (ps : List ℕ). Contains ps place) (sym one) (contains_first place []) in
    record {
      deed = own.deed;
      compacting = λ is. (place, task, inside, at, own.compacting is);
      cleaning = λ is. (place, task, inside, at, own.cleaning is);
      of_compaction = λ has.
          let same : place ≡ has.0 = only_member place has.0 (subst (λ (ps : List ℕ). Contains ps has.0) one has.2) in
          let is : task ≡ has.1 = cc (at, has.3, same) in
          own.of_compaction (subst (λ (t : Task). Compacting t.work) (sym is) has.4);
    }

-- ---- the workers of a script

module _ (setting : Setting) (lawful : IsLawfulScript setting.script) where
  abbrev gateways : ℕ
  gateways = gateway_count setting.script.gateways

  -- where a worker of a phase stands, and whose hand it is
  record Stands (number : ℕ) (worker : Worker) : Type 0 where
    place : ℕ
    at : slice_get (workers_of setting.script number) place ≡ Some worker
    phase : Phase
    is : slice_get setting.script.phases number ≡ Some phase
    hand : Hand
    hand_at : slice_get (hands_of gateways phase.tasks) place ≡ Some hand
    own : IsWorkerOf gateways phase.tasks hand (length (workers_before setting.script number) + place + 1) worker

  stands_by : (number : ℕ) (worker : Worker) → Contains (workers_of setting.script number) worker → (o : Option Phase) → slice_get setting.script.phases number ≡ o → Stands number worker
  stands_by number worker among None is =
      let none : workers_of setting.script number ≡ [] = rw is refl in
      absurd (no_member worker (subst (λ (ws : List Worker). Contains ws worker) none among))
  stands_by number worker among (Some phase) is =
      let at = place_of_member (workers_of setting.script number) worker among in
      let within = slice_get_within (workers_of setting.script number) at.0 worker at.1 in
      let seated = are_seated setting.script number phase lawful is in
      let hand = slice_get-below (hands_of gateways phase.tasks) at.0 (omega (arith, within, seated.count)) in
      record { place = at.0; at = at.1; phase = phase; is = is; hand = hand.0; hand_at = hand.1; own = seated.each at.0 hand.0 worker hand.1 at.1 }

  stands : (number : ℕ) (worker : Worker) → Contains (workers_of setting.script number) worker → Stands number worker
  stands number worker among = stands_by number worker among (slice_get setting.script.phases number) refl

  -- a worker without a gateway, who has one task at most
  pub record Alone (number : ℕ) (worker : Worker) : Type 0 where
    pub phase : Phase
    pub is : slice_get setting.script.phases number ≡ Some phase
    pub seated : ℕ
    pub at : slice_get (workers_of setting.script number) seated ≡ Some worker
    pub place : ℕ
    pub hand_at : slice_get (hands_of gateways phase.tasks) seated ≡ Some (hands.Alone place)
    pub each : (q : ℕ) → Contains worker.tasks q → IsTaskOf gateways phase.tasks (hands.Alone place) q
    pub one : (worker.tasks ≡ []) ⊎ (worker.tasks ≡ place ∷ [])
    pub above : 0 < worker.seat

  pub alone : (number : ℕ) (worker : Worker) → Contains (workers_of setting.script number) worker → worker.gateway ≡ None → Alone number worker
  alone number worker among none =
      let s = stands number worker among in
      let hand = alone_hand s.hand (sym s.own.gateway ∙ none) in
      let only = subst (λ (h : Hand). All (IsTaskOf gateways s.phase.tasks h) worker.tasks) hand.1 s.own.places.only in
      let each : (q : ℕ) → Contains worker.tasks q → IsTaskOf gateways s.phase.tasks (hands.Alone hand.0) q = λ q own. All-contains (IsTaskOf gateways s.phase.tasks (hands.Alone hand.0)) worker.tasks q only own in
      record {
        phase = s.phase;
        is = s.is;
        seated = s.place;
        at = s.at;
        place = hand.0;
        hand_at = s.hand_at ∙ ap (λ (h : Hand). Some h) hand.1;
        each = each;
        one = one_at_most hand.0 worker.tasks (λ q own. let t = each q own in alone_place gateways hand.0 q t.task.work t.whose) s.own.places.ascend;
        above = omega (arith, s.own.seat);
      }

  -- a worker who compacts has no gateway
  pub compactor_alone : (number place : ℕ) (worker : Worker) (phase : Phase) (task : Task) → Contains (workers_of setting.script number) worker → Contains worker.tasks place → slice_get setting.script.phases number ≡ Some phase → slice_get phase.tasks place ≡ Some task → Compacting task.work → worker.gateway ≡ None
  compactor_alone number place worker phase task among own in_phases in_tasks is =
      let s = stands number worker among in
      let t = All-contains (IsTaskOf gateways s.phase.tasks s.hand) worker.tasks place s.own.places.only own in
      let phases : s.phase ≡ phase = cc (s.is, in_phases) in
      let tasks : t.task ≡ task = cc (t.is, in_tasks, ap (λ (p : Phase). slice_get p.tasks place) phases) in
      let whose = subst (IsFor gateways s.hand place) (ap (λ (x : Task). x.work) tasks ∙ is.1) t.whose in
      s.own.gateway ∙ compacts_alone gateways s.hand place is.0 whose

  module _ (number : ℕ) (worker : Worker) (a : Alone number worker) where
    -- what the worker's tasks come to, by what its one task does
    worker_deed : (entries : List Entry) → (worker.tasks ≡ [] → entries ≡ []) → ((task : Task) → worker.tasks ≡ a.place ∷ [] → slice_get a.phase.tasks a.place ≡ Some task → IsAlone task.work → TaskDeed setting entries task.work)
        → WorkerDeed setting a.phase.tasks worker.tasks entries
    worker_deed entries nothing one = elim a.one [
      | inl none ↦ no_tasks setting a.phase.tasks worker.tasks entries none (nothing none)
      | inr single ↦
          let t = a.each a.place (subst (λ (ps : List ℕ). Contains ps a.place) (sym single) (contains_first a.place [])) in
          one_task setting a.phase.tasks worker.tasks a.place t.task entries single t.is (one t.task single t.is (alone_work gateways a.place a.place t.task.work t.whose))
    ]

    -- where its phase was not begun
    idle : WorkerDeed setting a.phase.tasks worker.tasks []
    idle = worker_deed [] (λ none. refl) (λ task single at own. idle_deed setting task.work own)

    assigned_none : (own : List Assigned) → worker.tasks ≡ [] → TasksAt a.phase.tasks worker.tasks own → own ≡ []
    assigned_none own none at = subst (λ (ps : List ℕ). TasksAt a.phase.tasks ps own) none at

    -- the runs of its tasks
    runs_none : (seats : ℕ → ℕ) (who : Who) (all : List Entry) (own : List Assigned) (entries : List Entry) (ends : List End) (last : Holding) → own ≡ [] → TasksRun (acting setting seats) who all nothing_held own entries ends last → entries ≡ []
    runs_none seats who all [] entries ends last nil run = run.0
    runs_none seats who all (x ∷ own) entries ends last nil run = absurd (cc (nil))

    runs_one : (seats : ℕ → ℕ) (who : Who) (all : List Entry) (own : List Assigned) (entries : List Entry) (ends : List End) (last : Holding) (task : Task) → TasksAt a.phase.tasks (a.place ∷ []) own → slice_get a.phase.tasks a.place ≡ Some task → IsAlone task.work
        → TasksRun (acting setting seats) who all nothing_held own entries ends last → TaskDeed setting entries task.work
    runs_one seats who all [] entries ends last task at is kind run = absurd at
    runs_one seats who all (x ∷ y ∷ own) entries ends last task at is kind run = absurd (cc (at.1))
    runs_one seats who all (x ∷ []) entries ends last task at is kind (inl (made, others, end, later, next, parts, run, came, rest)) =
        let same : x.task ≡ task = cc ((at.0).1, is) in
        let whole : made ≡ entries = sym (parts ∙ ap (λ (l : List Entry). made ++ l) rest.0 ∙ append-nil made) in
        let own = task_deed setting who x.place task.work kind nothing_held next made (Some end) (subst (λ (t : Task). TaskRun setting who x.place t.work nothing_held made (Some end) next) same run) in
        subst (λ (es : List Entry). TaskDeed setting es task.work) whole own
    runs_one seats who all (x ∷ []) entries ends last task at is kind (inr (run, came)) =
        let same : x.task ≡ task = cc ((at.0).1, is) in
        task_deed setting who x.place task.work kind nothing_held last entries None (subst (λ (t : Task). TaskRun setting who x.place t.work nothing_held entries None last) same run)

    -- where it was
    begun : (seats : ℕ → ℕ) (who : Who) (all : List Entry) (own : List Assigned) (entries : List Entry) (ends : List End) (last : Holding) → TasksAt a.phase.tasks worker.tasks own → TasksRun (acting setting seats) who all nothing_held own entries ends last → WorkerDeed setting a.phase.tasks worker.tasks entries
    begun seats who all own entries ends last at run =
        worker_deed entries
        (λ none. runs_none seats who all own entries ends last (assigned_none own none at) run)
        (λ task single is kind. runs_one seats who all own entries ends last task (subst (λ (ps : List ℕ). TasksAt a.phase.tasks ps own) single at) is kind run)

-- ---- an acting journal

module _ (setting : Setting) (journal : List Entry) (lawful : IsLawfulScript setting.script) (acts : IsActing setting journal) where
  abbrev gateways_of : ℕ
  gateways_of = gateway_count setting.script.gateways

  lawful_at : (phase : Phase) (number : ℕ) → slice_get setting.script.phases number ≡ Some phase → CompactOnce phase.tasks
  lawful_at phase number at =
      (All-contains (IsLawfulPhase setting.script.gateways setting.script.blocks (length setting.script.selectors)) setting.script.phases phase lawful.phases.each (contains_place setting.script.phases number phase at)).compacts_once

  abbrev numbering : ℕ → ℕ
  numbering = acts.seats

  abbrev at_seat : Worker → Worker
  at_seat worker = record { seat = numbering worker.seat; gateway = worker.gateway; tasks = worker.tasks }

  abbrev acting_way : Conduct Holding End
  acting_way = acting setting numbering

  -- an actor is a worker of the script who has no gateway
  record IsActor (number : ℕ) (actor : Worker) : Type 0 where
    own : Worker
    among : Contains (workers_of setting.script number) own
    is : at_seat own ≡ actor
    free : own.gateway ≡ None
    lone : Alone setting lawful number own

  actor_of : (number : ℕ) (actor : Worker) → Contains (actors setting numbering number) actor → IsActor number actor
  actor_of number actor inside =
      let one = of_map at_seat (filter (λ (w : Worker). is_none w.gateway) (workers_of setting.script number)) actor inside in
      let among = of_filter (λ (w : Worker). is_none w.gateway) (workers_of setting.script number) one.0 one.1 in
      let none = no_gateway (one.0).gateway (member_passes (λ (w : Worker). is_none w.gateway) (workers_of setting.script number) one.0 one.1) in
      record { own = one.0; among = among; is = one.2; free = none; lone = alone setting lawful number one.0 among none }

  into_actors : (number : ℕ) (worker : Worker) → Contains (workers_of setting.script number) worker → worker.gateway ≡ None → Contains (actors setting numbering number) (at_seat worker)
  into_actors number worker among none =
      into_map at_seat (filter (λ (w : Worker). is_none w.gateway) (workers_of setting.script number)) worker
      (into_filter (λ (w : Worker). is_none w.gateway) (workers_of setting.script number) worker among (ap is_none none))

  seat_of : (n : ℕ) (a : Worker) (x : IsActor n a) → IsActorSeat setting x.own.seat
  seat_of n a x = (n, x.own, x.among, x.free, refl)

  own_seats : (n m : ℕ) (a b : Worker) → (x : IsActor n a) (y : IsActor m b) → a.seat ≡ b.seat → x.own.seat ≡ y.own.seat
  own_seats n m a b x y same = acts.numbered.apart x.own.seat y.own.seat (seat_of n a x) (seat_of m b y) (ap (λ (w : Worker). w.seat) x.is ∙ same ∙ sym (ap (λ (w : Worker). w.seat) y.is))

  -- a seat is one actor's, in one phase
  actors_apart : (n m : ℕ) (a b : Worker) → Contains (actors setting numbering n) a → Contains (actors setting numbering m) b → a.seat ≡ b.seat → n ≡ m
  actors_apart n m a b one two same =
      let x = actor_of n a one in
      let y = actor_of m b two in
      one_phase setting.script lawful n m x.own y.own x.among y.among (own_seats n m a b x y same)

  actor_above : (n : ℕ) (a : Worker) → Contains (actors setting numbering n) a → 0 < a.seat
  actor_above n a inside = let x = actor_of n a inside in subst (λ (w : Worker). 0 < w.seat) x.is (acts.numbered.above x.own.seat (seat_of n a x))

  clock_apart : (n : ℕ) (a : Worker) (clock : Entry) → Contains (actors setting numbering n) a → clock.seat ≡ 0 → clock.seat ≢ a.seat
  clock_apart n a clock inside zero_seat same = let above = actor_above n a inside in absurd (omega (arith, above, zero_seat, same))

  -- ---- the entries of an actor

  module _ (n : ℕ) (a : Worker) (inside : Contains (actors setting numbering n) a) where
    -- it makes none in another phase
    quiet_phase : (number : ℕ) (tasks : List Task) (before : Holdings) (made : List Entry) (ends : List (List End)) (after : Holdings) → number ≢ n → PhaseRun acting_way tasks (actors setting numbering number) before made ends after → of_seat a.seat made ≡ []
    quiet_phase number tasks before made ends after other run =
        none_of_seat a.seat made
        (λ e among same. elim (All-contains (λ (x : Entry). Contains (map (λ (w : Worker). w.seat) (actors setting numbering number)) x.seat ⊎ acting_way.bystands x) made e run.seats among) [
          | inl sits ↦
              let who = of_map (λ (w : Worker). w.seat) (actors setting numbering number) e.seat sits in
              other (actors_apart number n who.0 a who.1 inside (who.2 ∙ same))
          | inr by ↦ by.2 n (subst (Contains (map (λ (w : Worker). w.seat) (actors setting numbering n))) (sym same) (into_map (λ (w : Worker). w.seat) (actors setting numbering n) a inside))
        ])

    quiet_phases : (number : ℕ) (before : Holdings) (phases : List Phase) (entries : List Entry) (ends : List (List (List End))) → n < number → PhasesRun (working acting_way) number before phases entries ends → of_seat a.seat entries ≡ []
    quiet_phases number before [] entries ends later run = ap (of_seat a.seat) run.0
    quiet_phases number before (phase ∷ phases) entries ends later (inl none) = ap (of_seat a.seat) none.0
    quiet_phases number before (phase ∷ phases) entries ends later (inr (clock, made, others, first, more, after, parts, begins, run, are, go)) =
        let other : number ≢ n = λ same. absurd (omega (arith, later, same)) in
        parted a.seat clock made others entries parts (clock_apart n a clock inside begins.seat)
        ∙ ap (λ (l : List Entry). l ++ of_seat a.seat others) (quiet_phase number phase.tasks before made first after other run)
        ∙ quiet_phases (number + 1) after phases others more (omega (arith, later)) go

    -- it makes none, or those of its phase
    abbrev IsSeated : List Entry → Type 0
    IsSeated entries =
        (of_seat a.seat entries ≡ [])
        ⊎ ((phase : Phase) × (before : Holdings) × (made : List Entry) × (after : Holdings) × (ends : List End)
        × (slice_get setting.script.phases n ≡ Some phase) × WorkerRun acting_way phase.tasks before made after a ends × (of_seat a.seat entries ≡ of_seat a.seat made))

    seat_here : (number : ℕ) (before : Holdings) (phase : Phase) (clock : Entry) (made others entries : List Entry) (first : List (List End)) (more : List (List (List End))) (phases : List Phase) (after : Holdings) → slice_get setting.script.phases number ≡ Some phase → number ≤ n → (b : Bool) → (number == n) ≡ b
        → entries ≡ clock ∷ made ++ others → clock.seat ≡ 0 → PhaseRun acting_way phase.tasks (actors setting numbering number) before made first after → PhasesRun (working acting_way) (number + 1) after phases others more → (number + 1 ≤ n → IsSeated others) → IsSeated entries
    seat_here number before phase clock made others entries first more phases after at low true test parts zero_seat run go rest =
        let same : number ≡ n = grind (arith, nat_tests, test) in
        let here : Contains (actors setting numbering number) a = subst (λ (k : ℕ). Contains (actors setting numbering k) a) (sym same) inside in
        let own = AllZip-second (WorkerRun acting_way phase.tasks before made after) (actors setting numbering number) first a run.runs here in
        let nothing : of_seat a.seat others ≡ [] = quiet_phases (number + 1) after phases others more (omega (arith, same)) go in
        let all : of_seat a.seat entries ≡ of_seat a.seat made =
        parted a.seat clock made others entries parts (clock_apart n a clock inside zero_seat) ∙ ap (λ (l : List Entry). of_seat a.seat made ++ l) nothing ∙ append-nil (of_seat a.seat made) in
        inr (phase, before, made, after, own.0, ap (slice_get setting.script.phases) (sym same) ∙ at, own.2, all)
    seat_here number before phase clock made others entries first more phases after at low false test parts zero_seat run go rest =
        let other : number ≢ n = λ same. absurd (grind (arith, nat_tests, test, same)) in
        let shorter : of_seat a.seat entries ≡ of_seat a.seat others =
        parted a.seat clock made others entries parts (clock_apart n a clock inside zero_seat) ∙ ap (λ (l : List Entry). l ++ of_seat a.seat others) (quiet_phase number phase.tasks before made first after other run) in
        elim (rest (omega (arith, low, other))) [
          | inl none ↦ inl (shorter ∙ none)
          | inr (own, opened, mine, closed, ends, is, worked, same) ↦ inr (own, opened, mine, closed, ends, is, worked, shorter ∙ same)
        ]

    seat_entries : (number : ℕ) (before : Holdings) (phases : List Phase) (entries : List Entry) (ends : List (List (List End))) → ((k : ℕ) (p : Phase) → slice_get phases k ≡ Some p → slice_get setting.script.phases (number + k) ≡ Some p) → number ≤ n
        → PhasesRun (working acting_way) number before phases entries ends → IsSeated entries
    seat_entries number before [] entries ends same low run = inl (ap (of_seat a.seat) run.0)
    seat_entries number before (phase ∷ phases) entries ends same low (inl none) = inl (ap (of_seat a.seat) none.0)
    seat_entries number before (phase ∷ phases) entries ends same low (inr (clock, made, others, first, more, after, parts, begins, run, are, go)) =
        let at : slice_get setting.script.phases number ≡ Some phase = ap (slice_get setting.script.phases) (omega arith) ∙ same 0 phase refl in
        let next : (k : ℕ) (p : Phase) → slice_get phases k ≡ Some p → slice_get setting.script.phases (number + 1 + k) ≡ Some p = λ k p own. ap (slice_get setting.script.phases) (omega arith) ∙ same (suc k) p own in
        seat_here number before phase clock made others entries first more phases after at low (number == n) refl parts begins.seat run go (λ lower. seat_entries (number + 1) after phases others more next lower go)

    actor_entries : IsSeated journal
    actor_entries = seat_entries 0 none_held setting.script.phases journal acts.ends (λ k p own. ap (slice_get setting.script.phases) (omega arith) ∙ own) (omega arith) acts.phases

    -- which are one deed, of the kind of its task
    actor_deed : (x : IsActor n a) → WorkerDeed setting x.lone.phase.tasks x.own.tasks (of_seat a.seat journal)
    actor_deed x = elim actor_entries [
      | inl none ↦ subst (WorkerDeed setting x.lone.phase.tasks x.own.tasks) (sym none) (idle setting lawful n x.own x.lone)
      | inr (phase, before, made, after, ends, is, worked, same) ↦
          let phases : phase ≡ x.lone.phase = cc (is, x.lone.is) in
          let tasks : a.tasks ≡ x.own.tasks = ap (λ (w : Worker). w.tasks) (sym x.is) in
          let at : TasksAt x.lone.phase.tasks x.own.tasks worked.own = subst (λ (p : Phase). TasksAt p.tasks x.own.tasks worked.own) phases (subst (λ (ps : List ℕ). TasksAt phase.tasks ps worked.own) tasks worked.are) in
          subst (WorkerDeed setting x.lone.phase.tasks x.own.tasks) (sym same) (begun setting lawful n x.own x.lone numbering (who_of a) made worked.own (of_seat a.seat made) ends worked.last at worked.runs)
    ]

  -- ---- the entries of others

  -- entries of this seat are of this kind
  abbrev OfSeat : ℕ → (Op → Type 0) → Entry → Type 0
  OfSeat seat Is e = e.seat ≡ seat → Is e.op

  of_all : (seat : ℕ) (Is : Op → Type 0) → All (OfSeat seat Is) journal → All (λ (e : Entry). Is e.op) (of_seat seat journal)
  of_all seat Is all =
      All-weaker (Contains (of_seat seat journal)) (λ (e : Entry). Is e.op)
      (λ e inside.
      let passes = member_passes (λ (x : Entry). x.seat == seat) journal e inside in
      All-contains (OfSeat seat Is) journal e all (of_filter (λ (x : Entry). x.seat == seat) journal e inside) (grind (arith, nat_tests, passes)))
      (of_seat seat journal) (All-contains_itself (of_seat seat journal))

  -- what holds of those that are made by others and by the clock holds of all entries of a seat that is no actor's
  seat_is : (seat : ℕ) (Is : Op → Type 0) → ((number : ℕ) (b : Worker) → Contains (actors setting numbering number) b → b.seat ≢ seat) → ((e : Entry) → acting_way.bystands e → OfSeat seat Is e) → ((phase : Phase) (clock : Entry) → BeginsPhase phase clock → OfSeat seat Is clock)
      → All (λ (e : Entry). Is e.op) (of_seat seat journal)
  seat_is seat Is none by clocked =
      of_all seat Is
      (phases_each (working acting_way) (OfSeat seat Is)
      (λ number phase before made ends after run.
      All-weaker (Contains made) (OfSeat seat Is)
      (λ e among same. elim (All-contains (λ (x : Entry). Contains (map (λ (w : Worker). w.seat) (actors setting numbering number)) x.seat ⊎ acting_way.bystands x) made e run.seats among) [
        | inl sits ↦
            let who = of_map (λ (w : Worker). w.seat) (actors setting numbering number) e.seat sits in
            absurd (none number who.0 who.1 (who.2 ∙ same))
        | inr stands ↦ by e stands same
      ]) made (All-contains_itself made))
      clocked 0 none_held setting.script.phases journal acts.ends acts.phases)

  reads_alone : (seat : ℕ) → seat ≢ 0 → ((number : ℕ) (b : Worker) → Contains (actors setting numbering number) b → b.seat ≢ seat) → All (λ (e : Entry). IsReading e.op) (of_seat seat journal)
  reads_alone seat other none = seat_is seat IsReading none (λ e stands same. stands.1) (λ phase clock begins same. absurd (other (sym same ∙ begins.seat)))

  sets_clock : (o : Op) (m : Moment) → o ≡ op.Clock m → IsClock o
  sets_clock o m is = subst IsClock (sym is) tt

  clocks_alone : All (λ (e : Entry). IsClock e.op) (of_seat 0 journal)
  clocks_alone =
      seat_is 0 IsClock (λ number b inside same. let above = actor_above number b inside in absurd (omega (arith, above, same)))
      (λ e stands same. absurd (stands.0 same)) (λ phase clock begins same. sets_clock clock.op phase.moment begins.sets)

  -- ---- whose a seat is

  find_first : (seat : ℕ) (w : Worker) (ws : List Worker) (b : Bool) → (w.seat == seat) ≡ b → ((x : Worker) × Contains ws x × (x.seat ≡ seat)) ⊎ ((x : Worker) → Contains ws x → x.seat ≢ seat)
      → ((x : Worker) × Contains (w ∷ ws) x × (x.seat ≡ seat)) ⊎ ((x : Worker) → Contains (w ∷ ws) x → x.seat ≢ seat)
  find_first seat w ws true test rest = inl (w, contains_first w ws, grind (arith, nat_tests, test))
  find_first seat w ws false test rest = elim rest [
    | inl (x, inside, is) ↦ inl (x, contains_later w x ws inside, is)
    | inr none ↦ inr (λ x inside is. elim (member_cases w x ws inside) [
      | inl same ↦ let own : w.seat ≡ seat = ap (λ (v : Worker). v.seat) same ∙ is in absurd (grind (arith, nat_tests, test, own))
      | inr later ↦ none x later is
    ])
  ]

  find_in : (seat : ℕ) (ws : List Worker) → ((b : Worker) × Contains ws b × (b.seat ≡ seat)) ⊎ ((b : Worker) → Contains ws b → b.seat ≢ seat)
  find_in seat [] = inr (λ b inside. absurd (no_member b inside))
  find_in seat (w ∷ ws) = find_first seat w ws (w.seat == seat) refl (find_in seat ws)

  abbrev IsFound : ℕ → Type 0
  IsFound seat = (number : ℕ) × (b : Worker) × Contains (actors setting numbering number) b × (b.seat ≡ seat)

  find_below : (seat count : ℕ) → IsFound seat ⊎ ((number : ℕ) (b : Worker) → number < count → Contains (actors setting numbering number) b → b.seat ≢ seat)
  find_below seat zero = inr (λ number b below inside. absurd (omega (arith, below)))
  find_below seat (suc count) = elim (find_below seat count) [
    | inl found ↦ inl found
    | inr none ↦ elim (find_in seat (actors setting numbering count)) [
      | inl (b, inside, is) ↦ inl (count, b, inside, is)
      | inr nobody ↦ inr (λ number b below inside. elim (trichotomy number count) [
        | inl less ↦ none number b less inside
        | inr rest ↦ elim rest [
          | inl more ↦ absurd (omega (arith, more, below))
          | inr same ↦ nobody b (subst (λ (k : ℕ). Contains (actors setting numbering k) b) same inside)
        ]
      ])
    ]
  ]

  find : (seat : ℕ) → IsFound seat ⊎ ((number : ℕ) (b : Worker) → Contains (actors setting numbering number) b → b.seat ≢ seat)
  find seat = elim (find_below seat (length setting.script.phases)) [
    | inl found ↦ inl found
    | inr none ↦ inr (λ number b inside. let x = actor_of number b inside in none number b (slice_get_within setting.script.phases number x.lone.phase x.lone.is) inside)
  ]

  -- ---- the deed of a seat

  -- an actor at this seat has such a task
  record Does (seat : ℕ) (Is : Work → Type 0) : Type 0 where
    number : ℕ
    actor : Worker
    inside : Contains (actors setting numbering number) actor
    sits : actor.seat ≡ seat
    own : IsActor number actor
    has : HasTask own.lone.phase.tasks own.own.tasks Is

  record SeatDeed (seat : ℕ) : Type 0 where
    deed : Deed setting (of_seat seat journal)
    compacting : Compacts deed → Does seat Compacting
    cleaning : Cleans deed → Does seat Cleaning
    of_compactor : IsCompactorAt setting numbering seat → Compacts deed

  -- who compacts at a seat is an actor
  compactor_free : (own : ℕ) (is : IsCompactorSeat setting own) → is.worker.gateway ≡ None
  compactor_free own is =
      compactor_alone setting lawful is.number is.place is.worker is.compacts.phase is.compacts.task is.works is.own is.compacts.in_phases is.compacts.in_tasks (is.stop, is.compacts.asks)

  compactor_acts : (own : ℕ) (is : IsCompactorSeat setting own) → Contains (actors setting numbering is.number) (at_seat is.worker)
  compactor_acts own is = into_actors is.number is.worker is.works (compactor_free own is)

  actor_seat : (number : ℕ) (b : Worker) (inside : Contains (actors setting numbering number) b) → SeatDeed b.seat
  actor_seat number b inside =
      let x = actor_of number b inside in
      let d = actor_deed number b inside x in
      record {
        deed = d.deed;
        compacting = λ yes. record { number = number; actor = b; inside = inside; sits = refl; own = x; has = d.compacting yes };
        cleaning = λ yes. record { number = number; actor = b; inside = inside; sits = refl; own = x; has = d.cleaning yes };
        of_compactor = λ at.
            let is = at.1 in
            let seat : (at_seat is.worker).seat ≡ b.seat = ap numbering is.sits ∙ at.2 in
            let here = compactor_acts at.0 is in
            let phases : is.number ≡ number = actors_apart is.number number (at_seat is.worker) b here inside seat in
            let y = actor_of is.number (at_seat is.worker) here in
            let worker : is.worker ≡ x.own = one_worker setting.script lawful is.number number is.worker x.own is.works x.among (acts.numbered.apart is.worker.seat x.own.seat (is.number, is.worker, is.works, compactor_free at.0 is, refl) (seat_of number b x) (seat ∙ sym (ap (λ (w : Worker). w.seat) x.is))) in
            let phase : is.compacts.phase ≡ x.lone.phase = cc (is.compacts.in_phases, x.lone.is, phases) in
            d.of_compaction (is.place, is.compacts.task, subst (λ (w : Worker). Contains w.tasks is.place) worker is.own, subst (λ (p : Phase). slice_get p.tasks is.place ≡ Some is.compacts.task) phase is.compacts.in_tasks, (is.stop, is.compacts.asks));
      }

  other_seat : (seat : ℕ) (deed : Deed setting (of_seat seat journal)) → ((number : ℕ) (b : Worker) → Contains (actors setting numbering number) b → b.seat ≢ seat) → ¬ Compacts deed → ¬ Cleans deed → SeatDeed seat
  other_seat seat deed none uncompacting uncleaning = record {
    deed = deed;
    compacting = λ yes. absurd (uncompacting yes);
    cleaning = λ yes. absurd (uncleaning yes);
    of_compactor = λ at. let is = at.1 in absurd (none is.number (at_seat is.worker) (compactor_acts at.0 is) (ap numbering is.sits ∙ at.2));
  }

  reading_seat : (seat : ℕ) → ((number : ℕ) (b : Worker) → Contains (actors setting numbering number) b → b.seat ≢ seat) → SeatDeed seat
  reading_seat zero none = other_seat 0 (clocks_deed clocks_alone) none (λ no. no) (λ no. no)
  reading_seat (suc seat) none = other_seat (suc seat) (reads_deed (reads_alone (suc seat) (λ is. absurd (omega (arith, is))) none)) none (λ no. no) (λ no. no)

  seat_deed : (seat : ℕ) → SeatDeed seat
  seat_deed seat = elim (find seat) [
    | inl (number, b, inside, sits) ↦ subst SeatDeed sits (actor_seat number b inside)
    | inr none ↦ reading_seat seat none
  ]

  -- ---- two compactions

  module _ (one other : ℕ) (differ : one ≢ other) (x : Does one Compacting) (y : Does other Compacting) where
    -- of one phase they are one
    one_actor : (same : x.number ≡ y.number) → x.own.own ≡ y.own.own → ⊥
    one_actor same is = differ (sym x.sits ∙ ap (λ (w : Worker). w.seat) (sym x.own.is) ∙ ap (λ (w : Worker). numbering w.seat) is ∙ ap (λ (w : Worker). w.seat) y.own.is ∙ y.sits)

    same_phases : x.number ≡ y.number → x.own.lone.phase ≡ y.own.lone.phase
    same_phases same = cc (x.own.lone.is, y.own.lone.is, same)

    not_twice : (p q : ℕ) (t u : Task) (tasks : List Task) → CompactOnce tasks → slice_get tasks p ≡ Some t → slice_get tasks q ≡ Some u → Compacting t.work → Compacting u.work → p < q → ⊥
    not_twice p q t u tasks once at also is so less =
        let within = slice_get_within tasks q u also in
        let first : get_or tasks p t ≡ t = get_or_from_slice_get tasks p t t at in
        let second : get_or tasks q t ≡ u = get_or_from_slice_get tasks q u t also in
        let is_first : is_compaction (get_or tasks p t).work ≡ true = ap (λ (v : Task). is_compaction v.work) first ∙ ap is_compaction is.1 in
        let no : is_compaction (get_or tasks q t).work ≡ false = once p q t less within is_first in
        absurd (cc (no, ap (λ (v : Task). is_compaction v.work) second, ap is_compaction so.1))

    same_hands : x.number ≡ y.number → x.own.lone.place ≡ y.own.lone.place → ⊥
    same_hands same place =
        let phase = same_phases same in
        let second : slice_get (hands_of gateways_of x.own.lone.phase.tasks) y.own.lone.seated ≡ Some (hands.Alone x.own.lone.place) =
        ap (λ (p : Phase). slice_get (hands_of gateways_of p.tasks) y.own.lone.seated) phase ∙ y.own.lone.hand_at ∙ ap (λ (k : ℕ). Some (hands.Alone k)) (sym place) in
        let staff = is_staff gateways_of x.own.lone.phase.tasks in
        let seated : x.own.lone.seated ≡ y.own.lone.seated = distinct_place same_hand (hands_of gateways_of x.own.lone.phase.tasks) (hands.Alone x.own.lone.place) x.own.lone.seated y.own.lone.seated (same_hand_itself x.own.lone.place) staff.once x.own.lone.hand_at second in
        one_actor same (cc (x.own.lone.at, y.own.lone.at, seated, same))

    task_place : {n : ℕ} {b : Worker} (z : IsActor n b) (q : ℕ) → Contains z.own.tasks q → q ≡ z.lone.place
    task_place z q inside = let t = z.lone.each q inside in alone_place gateways_of z.lone.place q t.task.work t.whose

    one_phase_apart : x.number ≡ y.number → ⊥
    one_phase_apart same =
        let phase = same_phases same in
        let lawful_phase = lawful_at x.own.lone.phase x.number x.own.lone.is in
        let also : slice_get x.own.lone.phase.tasks y.has.0 ≡ Some y.has.1 = ap (λ (p : Phase). slice_get p.tasks y.has.0) phase ∙ y.has.3 in
        elim (trichotomy x.has.0 y.has.0) [
          | inl less ↦ not_twice x.has.0 y.has.0 x.has.1 y.has.1 x.own.lone.phase.tasks lawful_phase x.has.3 also x.has.4 y.has.4 less
          | inr rest ↦ elim rest [
            | inl more ↦ not_twice y.has.0 x.has.0 y.has.1 x.has.1 x.own.lone.phase.tasks lawful_phase also x.has.3 y.has.4 x.has.4 more
            | inr place ↦ same_hands same (sym (task_place x.own x.has.0 x.has.2) ∙ place ∙ task_place y.own y.has.0 y.has.2)
          ]
        ]

    -- of two phases the one is before the other
    before_here : (number : ℕ) (before : Holdings) (phase : Phase) (clock : Entry) (made others entries : List Entry) (first : List (List End)) (more : List (List (List End))) (phases : List Phase) (after : Holdings) (n m : ℕ) (a b : Worker) (in_n : Contains (actors setting numbering n) a) (in_m : Contains (actors setting numbering m) b)
        → n < m → number ≤ n → (c : Bool) → (number == n) ≡ c → entries ≡ clock ∷ made ++ others → clock.seat ≡ 0 → PhaseRun acting_way phase.tasks (actors setting numbering number) before made first after → PhasesRun (working acting_way) (number + 1) after phases others more → Rises entries
        → (number + 1 ≤ n → AreBefore (of_seat a.seat others) (of_seat b.seat others)) → AreBefore (of_seat a.seat entries) (of_seat b.seat entries)
    before_here number before phase clock made others entries first more phases after n m a b in_n in_m less low true test parts zero_seat run go rises rest =
        λ e f early late.
        let same : number ≡ n = grind (arith, nat_tests, test) in
        let other : number ≢ m = λ is. absurd (omega (arith, is, same, less)) in
        let ones : of_seat a.seat entries ≡ of_seat a.seat made =
        parted a.seat clock made others entries parts (clock_apart n a clock in_n zero_seat) ∙ ap (λ (l : List Entry). of_seat a.seat made ++ l) (quiet_phases n a in_n (number + 1) after phases others more (omega (arith, same)) go) ∙ append-nil (of_seat a.seat made) in
        let twos : of_seat b.seat entries ≡ of_seat b.seat others =
        parted b.seat clock made others entries parts (clock_apart m b clock in_m zero_seat) ∙ ap (λ (l : List Entry). l ++ of_seat b.seat others) (quiet_phase m b in_m number phase.tasks before made first after other run) in
        let in_made = of_filter (λ (z : Entry). z.seat == a.seat) made e (subst (λ (l : List Entry). Contains l e) ones early) in
        let in_others = of_filter (λ (z : Entry). z.seat == b.seat) others f (subst (λ (l : List Entry). Contains l f) twos late) in
        rises_apart (clock ∷ made) others (subst Rises parts rises) e f (contains_later clock e made in_made) in_others
    before_here number before phase clock made others entries first more phases after n m a b in_n in_m less low false test parts zero_seat run go rises rest =
        λ e f early late.
        let apart : number ≢ n = λ same. absurd (grind (arith, nat_tests, test, same)) in
        let other : number ≢ m = λ is. absurd (omega (arith, is, less, low)) in
        let ones : of_seat a.seat entries ≡ of_seat a.seat others =
        parted a.seat clock made others entries parts (clock_apart n a clock in_n zero_seat) ∙ ap (λ (l : List Entry). l ++ of_seat a.seat others) (quiet_phase n a in_n number phase.tasks before made first after apart run) in
        let twos : of_seat b.seat entries ≡ of_seat b.seat others =
        parted b.seat clock made others entries parts (clock_apart m b clock in_m zero_seat) ∙ ap (λ (l : List Entry). l ++ of_seat b.seat others) (quiet_phase m b in_m number phase.tasks before made first after other run) in
        rest (omega (arith, low, apart)) e f (subst (λ (l : List Entry). Contains l e) ones early) (subst (λ (l : List Entry). Contains l f) twos late)

    none_before : (a b : Worker) (entries : List Entry) → entries ≡ [] → AreBefore (of_seat a.seat entries) (of_seat b.seat entries)
    none_before a b entries nil = λ e f early late. absurd (no_member e (subst (λ (l : List Entry). Contains (of_seat a.seat l) e) nil early))

    before_later : (n m : ℕ) (a b : Worker) (in_n : Contains (actors setting numbering n) a) (in_m : Contains (actors setting numbering m) b) → n < m → (number : ℕ) (before : Holdings) (phases : List Phase) (entries : List Entry) (ends : List (List (List End))) → number ≤ n
        → PhasesRun (working acting_way) number before phases entries ends → Rises entries → AreBefore (of_seat a.seat entries) (of_seat b.seat entries)
    before_later n m a b in_n in_m less number before [] entries ends low run rises = none_before a b entries run.0
    before_later n m a b in_n in_m less number before (phase ∷ phases) entries ends low (inl none) rises = none_before a b entries none.0
    before_later n m a b in_n in_m less number before (phase ∷ phases) entries ends low (inr (clock, made, others, first, more, after, parts, begins, run, are, go)) rises =
        before_here number before phase clock made others entries first more phases after n m a b in_n in_m less low (number == n) refl parts begins.seat run go rises
        (λ lower. before_later n m a b in_n in_m less (number + 1) after phases others more lower go (rises_right (clock ∷ made) others (subst Rises parts rises)))

    whole_before : (n m : ℕ) (a b : Worker) → Contains (actors setting numbering n) a → Contains (actors setting numbering m) b → n < m → AreBefore (of_seat a.seat journal) (of_seat b.seat journal)
    whole_before n m a b in_n in_m less = before_later n m a b in_n in_m less 0 none_held setting.script.phases journal acts.ends (omega arith) acts.phases (journal_rises setting.script.rules.tick.ms journal acts.kept)

    compactions_apart : AreBefore (of_seat one journal) (of_seat other journal) ⊎ AreBefore (of_seat other journal) (of_seat one journal)
    compactions_apart = elim (trichotomy x.number y.number) [
      | inl less ↦ inl (subst (λ (s : ℕ). AreBefore (of_seat s journal) (of_seat other journal)) x.sits (subst (λ (s : ℕ). AreBefore (of_seat x.actor.seat journal) (of_seat s journal)) y.sits (whole_before x.number y.number x.actor y.actor x.inside y.inside less)))
      | inr rest ↦ elim rest [
        | inl more ↦ inr (subst (λ (s : ℕ). AreBefore (of_seat s journal) (of_seat one journal)) y.sits (subst (λ (s : ℕ). AreBefore (of_seat y.actor.seat journal) (of_seat s journal)) x.sits (whole_before y.number x.number y.actor x.actor y.inside x.inside more)))
        | inr same ↦ absurd (one_phase_apart same)
      ]
    ]

  -- ---- all of it

  phases_there : journal ≢ [] → setting.script.phases ≢ []
  phases_there some nil =
      let run : PhasesRun (working acting_way) 0 none_held [] journal acts.ends = subst (λ (ps : List Phase). PhasesRun (working acting_way) 0 none_held ps journal acts.ends) nil acts.phases in
      some run.0

  abbrev all_deeds : AreDeeds setting journal
  all_deeds = record {
    kept = acts.kept;
    agreed = λ some. lawful.agreed (phases_there some);
    deed = λ seat. (seat_deed seat).deed;
    apart = λ one other differ first second. compactions_apart one other differ ((seat_deed one).compacting first) ((seat_deed other).compacting second);
  }

  -- a work that somebody does is one of the script's
  work_there : (seat : ℕ) (Is : Work → Type 0) (x : Does seat Is) → Contains (works_of setting.script.phases) (x.has.1).work
  work_there seat Is x =
      into_flat_map (λ (p : Phase). works_in p.tasks) setting.script.phases x.own.lone.phase (x.has.1).work (contains_place setting.script.phases x.number x.own.lone.phase x.own.lone.is)
      (into_map (λ (t : Task). t.work) x.own.lone.phase.tasks x.has.1 (contains_place x.own.lone.phase.tasks x.has.0 x.has.1 x.has.3))

  none_compacts : CompactsNothing setting.script → (seat : ℕ) → ¬ Compacts (seat_deed seat).deed
  none_compacts none seat does =
      let x = (seat_deed seat).compacting does in
      All-contains (λ (w : Work). (stop : Option ℕ) → w ≢ Compact stop) (works_of setting.script.phases) (x.has.1).work none (work_there seat Compacting x) x.has.4.0 x.has.4.1

  none_cleans : DeletesNothing setting.script → (seat : ℕ) → ¬ Cleans (seat_deed seat).deed
  none_cleans none seat does =
      let x = (seat_deed seat).cleaning does in
      All-contains (λ (w : Work). (stop : Option ℕ) → w ≢ Clean stop) (works_of setting.script.phases) (x.has.1).work none (work_there seat Cleaning x) x.has.4.0 x.has.4.1

-- what is known of the deeds of an acting journal
pub record ActingDeeds (setting : Setting) (journal : List Entry) (acts : IsActing setting journal) : Type 0 where
  pub deeds : AreDeeds setting journal
  pub compactors : (seat : ℕ) → IsCompactorAt setting acts.seats seat → Compacts (deeds.deed seat)
  pub uncompacted : CompactsNothing setting.script → (seat : ℕ) → ¬ Compacts (deeds.deed seat)
  pub undeleted : DeletesNothing setting.script → (seat : ℕ) → ¬ Cleans (deeds.deed seat)

pub acting_deeds : (setting : Setting) (journal : List Entry) → IsLawfulScript setting.script → (acts : IsActing setting journal) → ActingDeeds setting journal acts
acting_deeds setting journal lawful acts = record {
  deeds = all_deeds setting journal lawful acts;
  compactors = λ seat is. (seat_deed setting journal lawful acts seat).of_compactor is;
  uncompacted = none_compacts setting journal lawful acts;
  undeleted = none_cleans setting journal lawful acts;
}
