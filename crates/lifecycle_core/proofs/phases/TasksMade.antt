-- Whence the ends of a run come: each from a task's run, whose entries are part of the journal, with a view that such a run gave.
use Rattle.base.proofs.Membership.{all_members, contains_first, contains_later, member_cases, no_member}
use Rattle.base.proofs.Pairs.{AllZip-weaker_where, AllZip-first}
use Rattle.std.proofs.Common.{◌≡◌, ◌≢◌, inl, inr, ℕ, zero, suc, ◌+◌, ◌<◌, ◌≤◌, ◌==◌, Bool, List, [], ◌∷◌, ◌++◌, length, map, Contains, Option, Some, None, refl, sym, ◌∙◌, ap, subst, append_assoc, arith}
use Rattle.std.specs.Prelude.{slice_get}
use Rattle.std.specs.List.{All, AllByRecursion, AllZip, zip}
use Rattle.std.proofs.lemmas.List.Elements.{All-append, All-cons, All-contains, All-contains_itself, All-filter, All-nil, All-weaker, Contains-append_left, Contains-append_right}
use Rattle.world_core.specs.declared.entry.Entry.{Entry}
use Rattle.meta_fetcher.specs.Syncs.{SyncRun}
use Rattle.meta_fetcher.specs.declared.view.View.{View}
use Rattle.meta_fetcher.specs.declared.sync.SyncEnd.{SyncEnd}
use Rattle.meta_fetcher.specs.declared.sync.SyncEnd.TheVariants as fetched
use Rattle.script_core.specs.Lawful.{IsLawfulScript}
use Rattle.script_core.specs.Workers.{seats_before, workers_of}
use Rattle.script_core.proofs.SeatLaws.{workers_at}
use Rattle.script_workers.specs.Hands.{gateway_count, gateway_of, hands_of, places_from, seats_after, worker_of, workers_from}
use Rattle.script_workers.specs.Whose.{IsFor, IsTaskOf, does_alone, asks, syncs}
use Rattle.script_workers.proofs.StaffLaws.{are_places}
use Rattle.script_workers.specs.declared.hand.Hand.{Hand}
use Rattle.script_workers.specs.declared.phase.Phase.{Phase}
use Rattle.script_workers.specs.declared.task.Task.{Task}
use Rattle.script_workers.specs.declared.work.Work.{Work}
use Rattle.script_workers.specs.declared.work.Work.TheVariants as works
use Rattle.script_workers.specs.declared.work.Work.TheVariants.{Sync}
use Rattle.script_workers.specs.declared.worker.Worker.{Worker}
use Rattle.lifecycle_core.specs.Breaches.{IsSeatOf}
use Rattle.lifecycle_core.specs.Causes.{SomeCame}
use Rattle.world_core.specs.Journals.{of_seat}
use Rattle.lifecycle_core.specs.Conducts.{AreDone, Assigned, CameTo, PhaseRun, TasksAt, TasksRun, Who, WorkerRun, who_of}
use Rattle.store_ranges.specs.declared.range.Range.{Range}
use Rattle.store_ranges.specs.Reads.{Cache, Query as Question}
use Rattle.store_calls.specs.KeptRanges.{IsOfReads, IsReadIn}
use Rattle.store_calls.specs.SeriesCalls.{CallEnd, SeriesRun, to_read}
use Rattle.store_calls.specs.Asking.{IsReadOfOne}
use Rattle.store_calls.proofs.CallLaws.{call_asks, call_keeps}
use Rattle.lifecycle_core.specs.Holdings.{Holding, Holdings, Use, holding_of, none_held, nothing_held}
use Rattle.lifecycle_core.specs.Phases.{IsInTurn, IsRunOf, by_script, by_workers}
use Rattle.lifecycle_core.specs.Setting.{Setting}
use Rattle.lifecycle_core.specs.Tasks.{End, TaskRun, last_number, sync_rules}
use Rattle.lifecycle_core.specs.Ways.{AreInTurn, PhasesRun}
use Rattle.lifecycle_core.proofs.phases.OwnSyncs.{AreQuiet, IsFitFor, asking_fits, IsLatest, IsLatestAt, IsLone, NoneOver, ReadsABlock, latest_at, latest_behind, latest_in, latest_none, latest_past, latest_stays, lone_in, none_over, quiet_clock, quiet_next}
use Rattle.lifecycle_core.proofs.phases.PhaseViews.{views_left}
use Rattle.lifecycle_core.proofs.journals.Positions.{zipped}
pub use Rattle.lifecycle_core.proofs.phases.Stretches.{all_of_seat, no_listing, part_filter, part_left, part_middle, part_right, part_whole, rises_filter, rises_left, rises_right}
use Rattle.lifecycle_core.proofs.phases.Stretches.{after_last, all_before, all_left, all_right, lies_within, regroup, regroup_on, rises_before}
use Rattle.lifecycle_core.proofs.phases.TaskRuns.{task_leaves}
use Rattle.lifecycle_core.proofs.journals.Told.{IsMade, IsOrigin, IsPart, IsStretch, Rises}

-- ---- whose tasks are

abbrev AllFit : Option ℕ → List Assigned → Type 0
AllFit by assigned = AllByRecursion (λ (own : Assigned). IsFitFor by own.task.work) assigned

-- the tasks at a worker's places may be its own
abbrev HasFitting : List Task → Worker → Type 0
HasFitting tasks worker = (place : ℕ) (task : Task) → Contains worker.tasks place → slice_get tasks place ≡ Some task → IsFitFor worker.gateway task.work

all_fitting : (by : Option ℕ) (tasks : List Task) (places : List ℕ) (found : List Assigned) → ((place : ℕ) (task : Task) → Contains places place → slice_get tasks place ≡ Some task → IsFitFor by task.work) → TasksAt tasks places found → AllFit by found
all_fitting by tasks [] found each at = subst (AllFit by) (sym at) tt
all_fitting by tasks (p ∷ places) [] each at = absurd at
all_fitting by tasks (p ∷ places) (own ∷ found) each at = (
  each p own.task (contains_first p places) (at.0).1,
  all_fitting by tasks places found (λ place task among is. each place task (contains_later p place places among) is) at.1,
)

fit_for : (gateways : ℕ) (hand : Hand) (place : ℕ) (w : Work) (by : Option ℕ) → by ≡ gateway_of hand → IsFor gateways hand place w → IsFitFor by w
fit_for gateways hand place (works.Upload ulid stop) by is (does_alone none apart own) = is ∙ ap gateway_of own
fit_for gateways hand place (works.Compact stop) by is (does_alone none apart own) = is ∙ ap gateway_of own
fit_for gateways hand place (works.Clean stop) by is (does_alone none apart own) = is ∙ ap gateway_of own
fit_for gateways hand place (works.Sync gateway) by is (does_alone none apart own) = absurd (apart gateway refl)
fit_for gateways hand place (works.Query low high selector) by is (does_alone none apart own) = absurd (cc (none))
fit_for gateways hand place w by is (syncs gateway work own) = subst (IsFitFor by) (sym work) (is ∙ ap gateway_of own)
fit_for gateways hand place w by is (asks gateway asking own below) = asking_fits by w asking

-- each worker of a list of hands is one of them
hand_of : (gateways before : ℕ) (tasks : List Task) (hs : List Hand) (worker : Worker) → Contains (workers_from gateways before tasks hs) worker
    → (hand : Hand) × (worker.gateway ≡ gateway_of hand) × (worker.tasks ≡ places_from gateways hand 0 tasks)
unfolding workers_from
hand_of gateways before tasks [] worker among = absurd (no_member worker among)
hand_of gateways before tasks (hand ∷ hs) worker among =
    elim (member_cases (worker_of gateways (seats_after before 1) hand tasks) worker (workers_from gateways (seats_after before 1) tasks hs) among) [
      | inl same ↦ (hand, sym (ap (λ (w : Worker). w.gateway) same), sym (ap (λ (w : Worker). w.tasks) same))
      | inr later ↦ hand_of gateways (seats_after before 1) tasks hs worker later
    ]

-- a worker's tasks are for it
tasks_fit : (setting : Setting) (number : ℕ) (phase : Phase) → slice_get setting.script.phases number ≡ Some phase → (worker : Worker) → Contains (workers_of setting.script number) worker → HasFitting phase.tasks worker
tasks_fit setting number phase at worker among place task inside is =
    let gateways = gateway_count setting.script.gateways in
    let own = hand_of gateways (seats_before setting.script number) phase.tasks (hands_of gateways phase.tasks) worker (subst (λ (ws : List Worker). Contains ws worker) (workers_at setting.script number phase at) among) in
    let places = places_from gateways own.0 0 phase.tasks in
    let here : Contains places place = subst (λ (ps : List ℕ). Contains ps place) own.2 inside in
    let found = All-contains (IsTaskOf gateways phase.tasks own.0) places place (are_places gateways phase.tasks own.0).only here in
    let same : found.task ≡ task = cc (found.is, is) in
    subst (λ (t : Task). IsFitFor worker.gateway t.work) same (fit_for gateways own.0 place found.task.work worker.gateway own.1 found.whose)

-- as many tasks as places
assigned_many : (tasks : List Task) (places : List ℕ) (found : List Assigned) → TasksAt tasks places found → length places ≡ length found
assigned_many tasks [] found at = let none : length found ≡ 0 = ap (length {A = Assigned}) at in omega (arith, none)
assigned_many tasks (p ∷ places) [] at = absurd at
assigned_many tasks (p ∷ places) (own ∷ found) at = let rest = assigned_many tasks places found at.1 in omega (arith, rest)

-- with what is equal of both
both_zip : {A B : Type 0} (R : A → B → Type 0) (f : A → ℕ) (g : B → ℕ) (xs : List A) (ys : List B) → AllZip R xs ys → map f xs ≡ map g ys → AllZip (λ x y. R x y × (f x ≡ g y)) xs ys
both_zip R f g [] [] all same = tt
both_zip R f g [] (y ∷ ys) all same = absurd all
both_zip R f g (x ∷ xs) [] all same = absurd all
both_zip R f g (x ∷ xs) (y ∷ ys) all same = ((all.0, cc (same)), both_zip R f g xs ys all.1 (cc (same)))

-- the task came to its end in a run that this worker made
abbrev pub IsMadeBy : Setting → List Entry → Who → Task → End → Type 0
IsMadeBy setting journal who task end = (made : IsMade setting journal task end) × (made.who ≡ who)

-- and if that is so, by its gateway's last view
abbrev pub IsMadeLast : Setting → List Entry → Type 0 → Who → Task → End → Type 0
IsMadeLast setting journal Turned who task end =
    (made : IsMade setting journal task end) × (made.who ≡ who) × (Turned → (own : ℕ) → who.gateway ≡ Some own → IsLatestAt setting journal own made.entries made.held)

module _ (setting : Setting) (journal : List Entry) (rising : Rises journal) (Turned : Type 0) (turned : Turned → IsLawfulScript setting.script) where
  -- ---- a worker's tasks

  -- rules of this gateway are those of the worker's, if it has one
  abbrev IsRuledBy : Option ℕ → ℕ → Type 0
  IsRuledBy by gateway = (own : ℕ) → by ≡ Some own → gateway ≡ own

  fit_ruled : (by : Option ℕ) (w : Work) (gateway : ℕ) → IsFitFor by w → w ≡ Sync gateway → IsRuledBy by gateway
  fit_ruled by w gateway fit is = λ own same. let mine : by ≡ Some gateway = subst (IsFitFor by) is fit in cc (mine, same)

  -- a worker of the gateway has this seat
  abbrev Sits : Option ℕ → ℕ → Type 0
  Sits gateway seat = (own : ℕ) → gateway ≡ Some own → IsSeatOf setting own seat

  -- the view is that of a sync of the journal, which a worker of this gateway made
  -- by its own rules
  abbrev IsGivenBy : Option ℕ → Use → Type 0
  IsGivenBy gateway used = (o : IsOrigin setting journal used) × Sits gateway o.seat × IsRuledBy gateway o.gateway

  -- the entries are those of a seat
  abbrev AreOf : ℕ → List Entry → Type 0
  AreOf seat entries = All (λ (e : Entry). e.seat ≡ seat) entries

  -- an entry of the journal that was made before these
  abbrev WasBefore : List Entry → Entry → Type 0
  WasBefore rest one = Contains journal one × All (λ (e : Entry). one.seq < e.seq) rest

  -- The view that is held is that of such a sync, which ended before these entries; and the cache was read by entries before them.
  record IsKnown (rest : List Entry) (gateway : Option ℕ) (held : Holding) : Type 0 where
    views : (used : Use) → held.used ≡ Some used → IsGivenBy gateway used × All (λ (e : Entry). used.last < e.seq) rest
    earlier : List Entry
    known : All (WasBefore rest) earlier
    reads : All ReadsABlock earlier
    readers : (own : ℕ) → gateway ≡ Some own → All (λ (one : Entry). IsSeatOf setting own one.seat) earlier
    cached : IsOfReads earlier held.cache

  -- where what holds of all of these entries holds of all of those
  known_in : (xs ys : List Entry) → ((P : Entry → Type 0) → All P xs → All P ys) → (gateway : Option ℕ) (held : Holding) → IsKnown xs gateway held → IsKnown ys gateway held
  known_in xs ys less gateway held is = record {
    views = λ used same. ((is.views used same).0, less (λ (e : Entry). used.last < e.seq) (is.views used same).1);
    earlier = is.earlier;
    known = All-weaker (WasBefore xs) (WasBefore ys) (λ one own. (own.0, less (λ (e : Entry). one.seq < e.seq) own.1)) is.earlier is.known;
    reads = is.reads;
    readers = is.readers;
    cached = is.cached;
  }

  same_held : (rest : List Entry) (gateway : Option ℕ) (one other : Holding) → one ≡ other → IsKnown rest gateway other → IsKnown rest gateway one
  same_held rest gateway one other is known = subst (IsKnown rest gateway) (sym is) known

  known_after : (xs ys : List Entry) (gateway : Option ℕ) (held : Holding) → IsKnown (xs ++ ys) gateway held → IsKnown ys gateway held
  known_after xs ys gateway held known = known_in (xs ++ ys) ys (λ P. all_right P xs ys) gateway held known

  -- those of a front were made before those behind it
  front_before : (made rest : List Entry) → Rises (made ++ rest) → ((e : Entry) → Contains made e → Contains journal e) → All (WasBefore rest) made
  front_before [] rest rises among = All-nil (WasBefore rest)
  front_before (e ∷ made) rest rises among =
      All-cons (WasBefore rest) e made
      (among e (contains_first e made), All-weaker (λ (x : Entry). (e.seq < x.seq) × (e.moment.ms ≤ x.moment.ms)) (λ (x : Entry). e.seq < x.seq) (λ x p. p.0) rest (all_right (λ (x : Entry). (e.seq < x.seq) × (e.moment.ms ≤ x.moment.ms)) made rest rises.0))
      (front_before made rest rises.1 (λ x own. among x (contains_later e x made own)))

  more_reads : (one other : List Entry) (cache : Cache) → IsOfReads one cache → IsOfReads (one ++ other) cache
  more_reads one other cache of =
      All-weaker (λ (kept : Range × List ℕ). IsReadIn one kept.0 kept.1) (λ (kept : Range × List ℕ). IsReadIn (one ++ other) kept.0 kept.1)
      (λ kept read. (read.0, Contains-append_left one other read.0 read.1, read.2, read.3)) cache.entries of

  -- what a call leaves in the cache was read before, or by the call
  call_given : (made rest : List Entry) (by : Option ℕ) (seat : ℕ) (held : Holding) → IsKnown (made ++ rest) by held → Sits by seat → AreOf seat made → IsPart journal made → Rises (made ++ rest) → (used : Use) (asked : Question) (call : CallEnd)
      → held.used ≡ Some used → SeriesRun used.view asked held.cache made (Some call) → IsKnown rest by (record { used = held.used; cache = call.cache })
  call_given made rest by seat held is sits seats part rises used asked call same run =
      let after = known_after made rest by held is in
      record {
        views = after.views;
        earlier = after.earlier ++ made;
        known = All-append (WasBefore rest) after.earlier made after.known (front_before made rest rises part.among);
        reads = All-append ReadsABlock after.earlier made after.reads
            (All-weaker (λ (e : Entry). IsReadOfOne (to_read asked used.view.kept) e.op) ReadsABlock (λ e is. (is.0.ulid, is.2)) made (call_asks used.view asked held.cache made (Some call) run));
        readers = λ own owns.
            All-append (λ (one : Entry). IsSeatOf setting own one.seat) after.earlier made (after.readers own owns)
            (All-weaker (λ (e : Entry). e.seat ≡ seat) (λ (one : Entry). IsSeatOf setting own one.seat) (λ e at. subst (IsSeatOf setting own) (sym at) (sits own owns)) made seats);
        cached = call_keeps used.view asked held.cache made (after.earlier ++ made) call run
            (All-weaker (Contains made) (Contains (after.earlier ++ made)) (λ e among. Contains-append_right after.earlier made e among) made (All-contains_itself made))
            (more_reads after.earlier made held.cache after.cached);
      }

  view_given : (made rest : List Entry) (by : Option ℕ) (seat : ℕ) (held : Holding) → IsKnown rest by held → Sits by seat → IsPart journal made → IsStretch journal seat made → Rises (made ++ rest) → (gateway : ℕ) (own : Option SyncEnd) → IsRuledBy by gateway → SyncRun (sync_rules setting gateway) made own → (v : View) → own ≡ Some (fetched.View v)
      → IsKnown rest by (record { used = Some (record { view = v; last = last_number made }); cache = held.cache })
  view_given made rest by seat held known sits part stretch rises gateway own ruled run v is = record {
    views = λ used same.
        let one : record { view = v; last = last_number made } ≡ used = cc (same) in
        let mine : SyncRun (sync_rules setting gateway) made (Some (fetched.View v)) = subst (SyncRun (sync_rules setting gateway) made) is run in
        subst (λ (u : Use). IsGivenBy by u × All (λ (e : Entry). u.last < e.seq) rest) one (
          (record { gateway = gateway; entries = made; run = mine; last = refl; part = part; seat = seat; stretch = stretch }, sits, ruled),
          after_last (sync_rules setting gateway) made rest v mine rises,
        );
    earlier = known.earlier;
    known = known.known;
    reads = known.reads;
    readers = known.readers;
    cached = known.cached;
  }

  after_task : (who : Who) (place : ℕ) (made rest : List Entry) (held after : Holding) (w : Work) (end : Option End) → IsFitFor who.gateway w → Sits who.gateway who.seat → IsKnown (made ++ rest) who.gateway held → IsPart journal made → IsStretch journal who.seat made → AreOf who.seat made
      → Rises (made ++ rest)
      → TaskRun setting who place w held made end after → IsKnown rest who.gateway after
  after_task who place made rest held after w end fit sits known part stretch seats rises run =
      task_leaves (IsKnown rest who.gateway) setting who place held (known_after made rest who.gateway held known) made w end after
      (λ gateway own is. view_given made rest who.gateway who.seat held (known_after made rest who.gateway held known) sits part stretch rises gateway own (fit_ruled who.gateway w gateway fit is))
      (call_given made rest who.gateway who.seat held known sits seats part rises) run

  -- ---- the latest view

  -- What a worker of a gateway holds at its first of these entries, behind those before them, is the latest view, where all tasks before
  -- have come to their ends. The gateway has no other seat up to the entries that follow.
  abbrev IsTurn : Who → List Entry → List Entry → List Entry → Holding → Type 0
  IsTurn who before made rest held =
      Turned → (own : ℕ) → who.gateway ≡ Some own → NoneOver setting journal rising own who.seat (length before) × IsLone setting journal own who.seat made rest × IsLatest setting journal own (made ++ rest) held

  turn_front : (who : Who) (before made others beyond : List Entry) (held : Holding) → IsTurn who before (made ++ others) beyond held → IsTurn who before made (others ++ beyond) held
  turn_front who before made others beyond held turn = λ t own by.
      let h = turn t own by in (
        h.0,
        λ x inside sits e among low upto. h.1 x inside sits e (Contains-append_left made others e among) low (all_right (λ (y : Entry). x.seq < y.seq) others beyond upto),
        subst (λ (l : List Entry). IsLatest setting journal own l held) (append_assoc made others beyond) h.2,
      )

  -- the entries of a seat behind some of them are among all that follow
  abbrev IsTail : List Entry → List Entry → Type 1
  IsTail beyond behind = (P : Entry → Type 0) → All P beyond → All P behind

  tail_more : (others beyond behind : List Entry) → IsTail beyond behind → IsTail (others ++ beyond) (others ++ behind)
  tail_more others beyond behind tail = λ P all. All-append P others behind (all_left P others beyond all) (tail P (all_right P others beyond all))

  module _ (who : Who) (place : ℕ) (w : Work) (held next : Holding) (end : End) (before made others behind beyond : List Entry) (lays : of_seat who.seat journal ≡ (before ++ made) ++ (others ++ behind)) (up : Rises (made ++ (others ++ beyond))) (tail : IsTail (others ++ beyond) (others ++ behind))
      (fit : IsFitFor who.gateway w) (run : TaskRun setting who place w held made (Some end) next) (later : (used : Use) → held.used ≡ Some used → All (λ (e : Entry). used.last < e.seq) made) (turn : IsTurn who before (made ++ others) beyond held) where
    -- the task's entries
    turn_at : Turned → (own : ℕ) → who.gateway ≡ Some own → IsLatestAt setting journal own made held
    turn_at t own by =
        let h = turn_front who before made others beyond held turn t own by in
        latest_at setting journal rising own who by place w held next end before made (others ++ behind) (others ++ beyond) lays up tail fit run h.1 h.0 h.2

    -- and those behind it
    turn_behind : IsTurn who (before ++ made) others beyond next
    turn_behind = λ t own by.
        let h = turn_front who before made others beyond held turn t own by in (
          none_over setting journal rising own who by place w held next end before made (others ++ behind) (others ++ beyond) lays up tail fit run h.1 h.0,
          λ x inside sits e among low upto. (turn t own by).1 x inside sits e (Contains-append_right made others e among) low upto,
          latest_behind setting journal rising own who by place w held next end before made (others ++ behind) (others ++ beyond) lays up tail fit run h.1 h.0 later h.2,
        )

  -- ---- tasks

  -- the first tasks of a worker came to these ends, each in a run of its own
  abbrev AreMade : Who → List Assigned → List End → Type 0
  AreMade who tasks [] = Unit {0}
  AreMade who [] (end ∷ ends) = ⊥
  AreMade who (own ∷ tasks) (end ∷ ends) = IsMadeLast setting journal Turned who own.task end × AreMade who tasks ends

  -- where all tasks came to their ends, the latest view is left
  abbrev LeavesLatest : Who → List Assigned → List End → List Entry → Holding → Type 0
  LeavesLatest who tasks ends beyond last = Turned → (own : ℕ) → who.gateway ≡ Some own → length ends ≡ length tasks → IsLatest setting journal own beyond last

  -- a worker's tasks are made, and the view that they leave is known
  tasks_made : (who : Who) (all : List Entry) (held last : Holding) (tasks : List Assigned) (entries before behind beyond : List Entry) (ends : List End) → AllFit who.gateway tasks → Sits who.gateway who.seat → IsKnown (entries ++ beyond) who.gateway held → IsPart journal entries
      → of_seat who.seat journal ≡ (before ++ entries) ++ behind → IsTail beyond behind → AreOf who.seat entries → Rises (entries ++ beyond) → IsTurn who before entries beyond held
      → TasksRun (by_script setting) who all held tasks entries ends last → AreMade who tasks ends × IsKnown beyond who.gateway last × LeavesLatest who tasks ends beyond last
  tasks_made who all held last [] entries before behind beyond ends fits sits known part lays tail seat rises turn (nil, none, same) = (
    subst (AreMade who []) (sym none) tt,
    same_held beyond who.gateway last held same (known_after entries beyond who.gateway held known),
    λ t own by done. subst (IsLatest setting journal own beyond) (sym same) (subst (λ (l : List Entry). IsLatest setting journal own (l ++ beyond) held) nil (turn t own by).2),
  )
  tasks_made who all held last (own ∷ tasks) entries before behind beyond ends fits sits known part lays tail seat rises turn (inl (made, others, end, later, next, parts, run, is, rest)) =
      let all_same : entries ++ beyond ≡ made ++ (others ++ beyond) = ap (λ (l : List Entry). l ++ beyond) parts ∙ append_assoc made others beyond in
      let both : IsPart journal (made ++ others) = subst (IsPart journal) parts part in
      let whole : of_seat who.seat journal ≡ (before ++ (made ++ others)) ++ behind = lays ∙ ap (λ (l : List Entry). (before ++ l) ++ behind) parts in
      let up : Rises (made ++ (others ++ beyond)) = subst Rises all_same rises in
      let had : IsKnown (made ++ (others ++ beyond)) who.gateway held = subst (λ (l : List Entry). IsKnown l who.gateway held) all_same known in
      let mine = part_left journal made others both in
      let seats : AreOf who.seat (made ++ others) = subst (AreOf who.seat) parts seat in
      let own_seats = all_left (λ (e : Entry). e.seat ≡ who.seat) made others seats in
      let own_lays : of_seat who.seat journal ≡ (before ++ made) ++ (others ++ behind) = whole ∙ regroup before made others behind in
      let own_stretch : IsStretch journal who.seat made = record { before = before; after = others ++ behind; parts = own_lays } in
      let older : (used : Use) → held.used ≡ Some used → All (λ (e : Entry). used.last < e.seq) made = λ used same. all_left (λ (e : Entry). used.last < e.seq) made (others ++ beyond) (had.views used same).1 in
      let own_tail = tail_more others beyond behind tail in
      let own_turn : IsTurn who before (made ++ others) beyond held = subst (λ (l : List Entry). IsTurn who before l beyond held) parts turn in
      let on : AreMade who tasks later × IsKnown beyond who.gateway last × LeavesLatest who tasks later beyond last =
      tasks_made who all next last tasks others (before ++ made) behind beyond later fits.1 sits (after_task who own.place made (others ++ beyond) held next own.task.work (Some end) fits.0 sits had mine own_stretch own_seats up run)
      (part_right journal made others both) (whole ∙ regroup_on before made others behind) tail (all_right (λ (e : Entry). e.seat ≡ who.seat) made others seats) (rises_right made (others ++ beyond) up)
      (turn_behind who own.place own.task.work held next end before made others behind beyond own_lays up own_tail fits.0 run older own_turn) rest in
      let one : IsMade setting journal own.task end = record {
        who = who;
        place = own.place;
        held = held;
        after = next;
        entries = made;
        run = run;
        part = mine;
        own = own_seats;
        seated = sits;
        origin = λ used same. ((had.views used same).0).0;
        sits = λ used same gateway is. ((had.views used same).0).1 gateway is;
        same = λ used same gateway is. ((had.views used same).0).2 gateway is;
        later = older;
        earlier = had.earlier;
        known = All-weaker (WasBefore (made ++ (others ++ beyond))) (WasBefore made) (λ one own. (own.0, all_left (λ (e : Entry). one.seq < e.seq) made (others ++ beyond) own.1)) had.earlier had.known;
        reads = had.reads;
        readers = had.readers;
        cached = had.cached;
      } in
      let latest : Turned → (n : ℕ) → who.gateway ≡ Some n → IsLatestAt setting journal n made held = turn_at who own.place own.task.work held next end before made others behind beyond own_lays up own_tail fits.0 run older own_turn in (
        subst (AreMade who (own ∷ tasks)) (sym is) ((one, refl, latest), on.0),
        on.1,
        λ t n by done. on.2 t n by (let size : length ends ≡ length (end ∷ later) = ap (length {A = End}) is in omega (arith, done, size)),
      )
  tasks_made who all held last (own ∷ tasks) entries before behind beyond ends fits sits known part lays tail seat rises turn (inr (run, none)) = (
    subst (AreMade who (own ∷ tasks)) (sym none) tt,
    after_task who own.place entries beyond held last own.task.work None fits.0 sits known part (record { before = before; after = behind; parts = lays }) seat rises run,
    λ t n by done. let size : length ends ≡ 0 = ap (length {A = End}) none in absurd (omega (arith, done, size)),
  )

  -- some task came to an end
  some_task : (who : Who) (tasks : List Assigned) (ends : List End) (end : End) → AreMade who tasks ends → Contains ends end → (task : Task) × IsMadeLast setting journal Turned who task end
  some_task who tasks [] end made (k, below, is) = absurd (omega (arith, below))
  some_task who [] (first ∷ ends) end made among = absurd made
  some_task who (own ∷ tasks) (first ∷ ends) end made (zero, below, is) = (own.task, subst (IsMadeLast setting journal Turned who own.task) is made.0)
  some_task who (own ∷ tasks) (first ∷ ends) end made (suc k, below, is) = some_task who tasks ends end made.1 (k, omega (arith, below), is)

  -- the task at a place came to the end beside that place
  task_at : (who : Who) (tasks : List Task) (places : List ℕ) (found : List Assigned) (own : List End) (place : ℕ) (end : End) → TasksAt tasks places found → AreMade who found own → Contains (zip places own) (place, end)
      → (task : Task) × (slice_get tasks place ≡ Some task) × IsMadeLast setting journal Turned who task end
  task_at who tasks [] found own place end at made (k, below, is) = absurd (omega (arith, below))
  task_at who tasks (p ∷ places) [] own place end at made among = absurd at
  task_at who tasks (p ∷ places) (task ∷ found) [] place end at made (k, below, is) = absurd (omega (arith, below))
  task_at who tasks (p ∷ places) (task ∷ found) (e ∷ own) place end at made (zero, below, is) = (
    task.task,
    subst (λ n. slice_get tasks n ≡ Some task.task) (ap (λ (x : ℕ × End). x.0) is) (at.0).1,
    subst (IsMadeLast setting journal Turned who task.task) (ap (λ (x : ℕ × End). x.1) is) made.0,
  )
  task_at who tasks (p ∷ places) (task ∷ found) (e ∷ own) place end at made (suc k, below, is) = task_at who tasks places found own place end at.1 made.1 (k, omega (arith, below), is)

  -- ---- a phase

  -- the tasks at a worker's places are made
  abbrev WorkerMade : List Task → Worker → List End → Type 0
  WorkerMade tasks worker own = (found : List Assigned) × TasksAt tasks worker.tasks found × AreMade (who_of worker) found own

  abbrev PhaseMade : List Task → List Worker → List (List End) → Type 0
  PhaseMade tasks workers ends = AllZip (WorkerMade tasks) workers ends

  module _ (tasks : List Task) (number : ℕ) (views : Holdings) (made : List Entry) (ends : List (List End)) (after : Holdings) (run : PhaseRun (by_script setting) tasks (workers_of setting.script number) views made ends after) (part : IsPart journal made)
      (front beyond : List Entry) (is : journal ≡ front ++ (made ++ beyond)) (rises : Rises (made ++ beyond)) (known : (gateway : Option ℕ) → IsKnown (made ++ beyond) gateway (holding_of views gateway))
      (fits : (worker : Worker) → Contains (workers_of setting.script number) worker → HasFitting tasks worker)
      (quiet : (t : Turned) → AreQuiet setting (turned t) number front) (latest : Turned → (own : ℕ) → IsLatest setting journal own (made ++ beyond) (views own)) where
    abbrev workers : List Worker
    workers = workers_of setting.script number

    turn_begins : (worker : Worker) → Contains workers worker → IsTurn (who_of worker) (of_seat worker.seat front) (of_seat worker.seat made) beyond (holding_of views worker.gateway)
    turn_begins worker among t own by = (
      λ others other y less. let size : length (of_seat worker.seat front) ≡ 0 = ap (length {A = Entry}) (quiet t number worker among (omega arith)) in absurd (omega (arith, less, size)),
      lone_in setting (turned t) number tasks views made ends after run journal front beyond rising is worker among own by,
      subst (λ (g : Option ℕ). IsLatest setting journal own (of_seat worker.seat made ++ beyond) (holding_of views g)) (sym by)
          (latest_in setting (turned t) number tasks views made ends after run journal front beyond rising rises is worker among own by (views own) (latest t own)),
    )

    worker_made : (worker : Worker) (own : List End) (w : WorkerRun (by_script setting) tasks views made after worker own) → Contains workers worker
        → AreMade (who_of worker) w.own own × IsKnown beyond worker.gateway w.last × LeavesLatest (who_of worker) w.own own beyond w.last
    worker_made worker own w among =
        let p : Entry → Bool = λ x. x.seat == worker.seat in
        tasks_made (who_of worker) made (holding_of views worker.gateway) w.last w.own (of_seat worker.seat made) (of_seat worker.seat front) (of_seat worker.seat beyond) beyond own (all_fitting worker.gateway tasks worker.tasks w.own (fits worker among) w.are)
        (λ gateway same. (number, worker, among, same, refl)) (known_in (made ++ beyond) (of_seat worker.seat made ++ beyond) (λ P. all_before p P made beyond) worker.gateway (holding_of views worker.gateway) (known worker.gateway))
        (part_filter journal p made part) (lies_within journal worker.seat front made beyond is) (λ P all. All-filter p P beyond all) (all_of_seat worker.seat made) (rises_before p made beyond rises) (turn_begins worker among) w.runs

    phase_made : PhaseMade tasks workers ends
    phase_made =
        AllZip-weaker_where (Contains workers) (WorkerRun (by_script setting) tasks views made after) (WorkerMade tasks) (λ worker own among w. (w.own, w.are, (worker_made worker own w among).0)) workers ends
        (all_members (Contains workers) workers (λ worker among. among)) run.runs

    after_phase : (gateway : Option ℕ) → IsKnown beyond gateway (holding_of after gateway)
    after_phase =
        views_left setting tasks workers views made ends after run (IsKnown beyond) (WorkerRun (by_script setting) tasks views made after) (λ worker own w. w) run.runs (λ worker own w among. (worker_made worker own w among).1)
        (known_after made beyond None (holding_of views None) (known None)) (λ gateway idle. known_after made beyond (Some gateway) (holding_of views (Some gateway)) (known (Some gateway)))

    -- where each worker's tasks came to their ends
    abbrev Ended : Worker → List End → Type 0
    Ended worker own = WorkerRun (by_script setting) tasks views made after worker own × (length worker.tasks ≡ length own)

    latest_left : Turned → AreDone workers ends → (own : ℕ) → IsLatest setting journal own beyond (after own)
    latest_left t done own =
        views_left setting tasks workers views made ends after run (λ gateway held. (n : ℕ) → gateway ≡ Some n → IsLatest setting journal n beyond held) Ended (λ worker its e. e.0)
        (both_zip (WorkerRun (by_script setting) tasks views made after) (λ (w : Worker). length w.tasks) (length {A = End}) workers ends run.runs done)
        (λ worker its e among n by. (worker_made worker its e.0 among).2 t n by (sym e.1 ∙ assigned_many tasks worker.tasks e.0.own e.0.are)) (λ n none. absurd (cc (none)))
        (λ gateway idle n same.
        let is_own : gateway ≡ n = cc (same) in
        subst (λ (m : ℕ). IsLatest setting journal m beyond (views gateway)) is_own
        (latest_stays setting (turned t) number tasks views made ends after run journal front beyond rising rises is gateway idle (views gateway) (latest t gateway))) (Some own) own refl

  -- ---- all phases

  -- the phases from a number on are made, as far as there are ends
  abbrev PhasesMade : ℕ → List Phase → List (List (List End)) → Type 0
  PhasesMade number phases [] = Unit {0}
  PhasesMade number [] (first ∷ later) = ⊥
  PhasesMade number (phase ∷ phases) (first ∷ later) = PhaseMade phase.tasks (workers_of setting.script number) first × PhasesMade (number + 1) phases later

  no_phases : (number : ℕ) (phases : List Phase) (ends : List (List (List End))) → ends ≡ [] → PhasesMade number phases ends
  no_phases number phases ends none = subst (PhasesMade number phases) (sym none) tt

  -- what is known of the views before the phases from a number on, where each of them behind which another one was begun was done
  record InTurn (number : ℕ) (views : Holdings) (phases : List Phase) (front entries : List Entry) (ends : List (List (List End))) (t : Turned) : Type 0 where
    in_turn : AreInTurn (by_workers setting) number phases ends
    quiet : AreQuiet setting (turned t) number front
    latest : (own : ℕ) → IsLatest setting journal own entries (views own)

  phases_made : (number : ℕ) (views : Holdings) (phases : List Phase) (front entries : List Entry) (ends : List (List (List End))) → ((k : ℕ) (p : Phase) → slice_get phases k ≡ Some p → slice_get setting.script.phases (number + k) ≡ Some p)
      → ((gateway : Option ℕ) → IsKnown entries gateway (holding_of views gateway)) → IsPart journal entries → journal ≡ front ++ entries
      → ((t : Turned) → ends ≢ [] → InTurn number views phases front entries ends t)
      → PhasesRun (by_workers setting) number views phases entries ends → PhasesMade number phases ends
  phases_made number views [] front entries ends same known part is turn (nil, none) = no_phases number [] ends none
  phases_made number views (phase ∷ phases) front entries ends same known part is turn (inl (nil, none)) = no_phases number (phase ∷ phases) ends none
  phases_made number views (phase ∷ phases) front entries ends same known part is turn (inr (clock, made, others, first, later, after, parts, begins, run, are, go)) =
      let all : IsPart journal (clock ∷ made ++ others) = subst (IsPart journal) parts part in
      let had : (gateway : Option ℕ) → IsKnown (clock ∷ made ++ others) gateway (holding_of views gateway) = λ gateway. subst (λ (l : List Entry). IsKnown l gateway (holding_of views gateway)) parts (known gateway) in
      let start : journal ≡ front ++ (clock ∷ made ++ others) = is ∙ ap (λ (l : List Entry). front ++ l) parts in
      let begun : journal ≡ (front ++ clock ∷ []) ++ (made ++ others) = start ∙ sym (append_assoc front (clock ∷ []) (made ++ others)) in
      let own = part_middle journal (clock ∷ []) made others all in
      let rest = part_right journal (clock ∷ made) others all in
      let up = rises_right (clock ∷ []) (made ++ others) all.rises in
      let mine : (gateway : Option ℕ) → IsKnown (made ++ others) gateway (holding_of views gateway) = λ gateway. known_after (clock ∷ []) (made ++ others) gateway (holding_of views gateway) (had gateway) in
      let at : slice_get setting.script.phases number ≡ Some phase = ap (slice_get setting.script.phases) (omega arith) ∙ same 0 phase refl in
      let onward : (k : ℕ) (p : Phase) → slice_get phases k ≡ Some p → slice_get setting.script.phases (number + 1 + k) ≡ Some p = λ k p own. ap (slice_get setting.script.phases) (omega arith) ∙ same (suc k) p own in
      let some : ends ≢ [] = λ none. let both : first ∷ later ≡ [] = sym are ∙ none in cc (both) in
      let fits = tasks_fit setting number phase at in
      let now : (t : Turned) → InTurn number views (phase ∷ phases) front (clock ∷ made ++ others) (first ∷ later) t = λ t.
      let turns = turn t some in
      record { in_turn = subst (AreInTurn (by_workers setting) number (phase ∷ phases)) are turns.in_turn; quiet = turns.quiet; latest = λ n. subst (λ (l : List Entry). IsLatest setting journal n l (views n)) parts (turns.latest n) } in
      let quiet : (t : Turned) → AreQuiet setting (turned t) number (front ++ clock ∷ []) = λ t. quiet_clock setting (turned t) number front clock begins.seat (now t).quiet in
      let latest : Turned → (n : ℕ) → IsLatest setting journal n (made ++ others) (views n) = λ t n. latest_past setting (turned t) journal front (made ++ others) clock rising start begins.seat n (views n) ((now t).latest n) in
      let one = phase_made phase.tasks number views made first after run own (front ++ clock ∷ []) others begun up mine fits quiet latest in
      let next = after_phase phase.tasks number views made first after run own (front ++ clock ∷ []) others begun up mine fits quiet latest in
      let ended : journal ≡ (front ++ clock ∷ made) ++ others = start ∙ sym (append_assoc front (clock ∷ made) others) in
      let turned_on : (t : Turned) → later ≢ [] → InTurn (number + 1) after phases (front ++ clock ∷ made) others later t = λ t more. record {
        in_turn = (now t).in_turn.1;
        quiet = quiet_next setting (turned t) number phase.tasks views made first after run front clock begins.seat (now t).quiet;
        latest = latest_left phase.tasks number views made first after run own (front ++ clock ∷ []) others begun up mine fits quiet latest t ((now t).in_turn.0 more);
      } in
      subst (PhasesMade number (phase ∷ phases)) (sym are) (one, phases_made (number + 1) after phases (front ++ clock ∷ made) others later onward next rest ended turned_on go)

  nothing_known : (gateway : Option ℕ) → IsKnown journal gateway nothing_held
  nothing_known gateway = record {
    views = λ used is. absurd (cc (is));
    earlier = [];
    known = All-nil (WasBefore journal);
    reads = All-nil ReadsABlock;
    readers = λ own owns. All-nil (λ (one : Entry). IsSeatOf setting own one.seat);
    cached = All-nil (λ (kept : Range × List ℕ). IsReadIn [] kept.0 kept.1);
  }

  no_view_yet : (gateway : Option ℕ) → IsKnown journal gateway (holding_of none_held gateway)
  no_view_yet None = nothing_known None
  no_view_yet (Some gateway) = nothing_known (Some gateway)

  run_made : (ends : List (List (List End))) → (Turned → IsInTurn setting ends) → IsRunOf setting journal ends → PhasesMade 0 setting.script.phases ends
  run_made ends turns run =
      phases_made 0 none_held setting.script.phases [] journal ends (λ k p own. ap (slice_get setting.script.phases) (omega arith) ∙ own) no_view_yet (part_whole journal rising) refl
      (λ t some. record { in_turn = turns t; quiet = λ n a inside low. refl; latest = λ own. latest_none setting journal rising own nothing_held }) run.phases

  -- the phase at a place is one of the script's, and is made
  phase_at : (number k : ℕ) (phases : List Phase) (ends : List (List (List End))) (own : List (List End)) → PhasesMade number phases ends → slice_get ends k ≡ Some own
      → (phase : Phase) × (slice_get phases k ≡ Some phase) × PhaseMade phase.tasks (workers_of setting.script (number + k)) own
  phase_at number k phases [] own made is = absurd (cc (is))
  phase_at number k [] (first ∷ ends) own made is = absurd made
  phase_at number zero (phase ∷ phases) (first ∷ ends) own made is =
      let other : first ≡ own = cc (is) in
      let here : PhaseMade phase.tasks (workers_of setting.script number) own = subst (PhaseMade phase.tasks (workers_of setting.script number)) other made.0 in
      (phase, refl, subst (λ n. PhaseMade phase.tasks (workers_of setting.script n) own) (omega arith) here)
  phase_at number (suc k) (phase ∷ phases) (first ∷ ends) own made is =
      let later = phase_at (number + 1) k phases ends own made.1 is in
      (later.0, later.1, subst (λ n. PhaseMade (later.0).tasks (workers_of setting.script n) own) (omega arith) later.2)

  -- some phase came to these ends
  some_phase : (number : ℕ) (phases : List Phase) (ends : List (List (List End))) (told : List (List End)) → PhasesMade number phases ends → Contains ends told → (tasks : List Task) × (workers : List Worker) × PhaseMade tasks workers told
  some_phase number phases [] told made (k, below, is) = absurd (omega (arith, below))
  some_phase number [] (first ∷ ends) told made among = absurd made
  some_phase number (phase ∷ phases) (first ∷ ends) told made (zero, below, is) = (phase.tasks, workers_of setting.script number, subst (PhaseMade phase.tasks (workers_of setting.script number)) is made.0)
  some_phase number (phase ∷ phases) (first ∷ ends) told made (suc k, below, is) = some_phase (number + 1) phases ends told made.1 (k, omega (arith, below), is)

-- the script is lawful, and each phase behind which another one was begun was done
abbrev pub AreTurned : Setting → List (List (List End)) → Type 0
AreTurned setting ends = IsLawfulScript setting.script × IsInTurn setting ends

module _ (setting : Setting) (journal : List Entry) (ends : List (List (List End))) (rises : Rises journal) (run : IsRunOf setting journal ends) where
  abbrev Turned : Type 0
  Turned = AreTurned setting ends

  abbrev Made : List Task → Worker → List End → Type 0
  Made = WorkerMade setting journal rises Turned (λ t. t.0)

  all_made : PhasesMade setting journal rises Turned (λ t. t.0) 0 setting.script.phases ends
  all_made = run_made setting journal rises Turned (λ t. t.0) ends (λ t. t.1) run

  -- every end of a run comes from some task's run, by its gateway's last view
  pub ends_are_last : (end : End) → SomeCame ends end → (who : Who) × (task : Task) × IsMadeLast setting journal Turned who task end
  ends_are_last end (told, own, one, two, three) =
      let phase = some_phase setting journal rises Turned (λ t. t.0) 0 setting.script.phases ends told all_made one in
      let worker = AllZip-first (Made phase.0) phase.1 told own phase.2 two in
      let its = some_task setting journal rises Turned (λ t. t.0) (who_of worker.0) (worker.2).0 own end (worker.2).2 three in
      (who_of worker.0, its.0, its.1)

  -- and the end at a place of a phase from the run of the task at that place, by the worker who came to it
  pub answers_are_last : (number : ℕ) (own : List (List End)) (gateway : Option ℕ) (place : ℕ) (end : End) → slice_get ends number ≡ Some own → (came : CameTo (workers_of setting.script number) own gateway place end)
      → (phase : Phase) × (task : Task) × (slice_get setting.script.phases number ≡ Some phase) × (slice_get phase.tasks place ≡ Some task) × IsMadeLast setting journal Turned (who_of came.worker) task end
  answers_are_last number own gateway place end own_is came =
      let there = phase_at setting journal rises Turned (λ t. t.0) 0 number setting.script.phases ends own all_made own_is in
      let made : AllZip (Made (there.0).tasks) (workers_of setting.script number) own = subst (λ n. AllZip (Made (there.0).tasks) (workers_of setting.script n) own) (omega arith) there.2 in
      let worker = zipped (Made (there.0).tasks) (workers_of setting.script number) own came.worker came.own made came.among in
      let found = task_at setting journal rises Turned (λ t. t.0) (who_of came.worker) (there.0).tasks came.worker.tasks worker.0 came.own place end worker.1 worker.2 came.came in
      (there.0, found.0, there.1, found.1, found.2)

-- every end of a run comes from some task's run
pub ends_are_made : (setting : Setting) (journal : List Entry) (ends : List (List (List End))) → Rises journal → IsRunOf setting journal ends → (end : End) → SomeCame ends end → (task : Task) × IsMade setting journal task end
ends_are_made setting journal ends rises run end came = let last = ends_are_last setting journal ends rises run end came in (last.1, (last.2).0)

-- and the end at a place from the run of the task there, where the phase and the task are known
pub answers_are_made : (setting : Setting) (journal : List Entry) (ends : List (List (List End))) → Rises journal → IsRunOf setting journal ends
    → (number : ℕ) (phase : Phase) (own : List (List End)) (gateway : Option ℕ) (place : ℕ) (task : Task) (end : End) → slice_get setting.script.phases number ≡ Some phase → slice_get phase.tasks place ≡ Some task → slice_get ends number ≡ Some own
    → (came : CameTo (workers_of setting.script number) own gateway place end) → IsMadeBy setting journal (who_of came.worker) task end
answers_are_made setting journal ends rises run number phase own gateway place task end phase_is task_is own_is came =
    let there = answers_are_last setting journal ends rises run number own gateway place end own_is came in
    let one : there.0 ≡ phase = cc (there.2, phase_is) in
    let same : there.1 ≡ task = cc (subst (λ (p : Phase). slice_get p.tasks place ≡ Some there.1) one there.3, task_is) in
    subst (λ (t : Task). IsMadeBy setting journal (who_of came.worker) t end) same ((there.4).0, (there.4).1)
