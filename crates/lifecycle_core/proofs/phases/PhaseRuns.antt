-- A phase whose tasks are done in line is a run of the phase.
use Rattle.base.proofs.Membership.{contains_first, contains_later}
use Rattle.base.proofs.Pairs.{AllZip-weaker}
use Rattle.std.proofs.lemmas.Bool.{or_left, or_right}
use Rattle.std.proofs.Common.{◌≡◌, ◌≢◌, ◌⊎◌, ℕ, suc, ◌+◌, ◌<◌, ◌≤◌, Bool, true, false, ◌||◌, cond, List, [], ◌∷◌, length, map, refl, sym, ◌∙◌, ap, subst, inl, inr, arith}
use Rattle.std.specs.Prelude.{◌==◌, Option, Some, slice_get}
use Rattle.std.specs.List.{All, AllByRecursion, AllZip, Contains, zip, list_any}
use Rattle.std.proofs.lemmas.Bool.Decides.{nat_tests}
use Rattle.std.proofs.lemmas.List.Elements.{All-append, All-head, All-nil, All-tail, All-weaker}
use Rattle.std.proofs.lemmas.List.{length-map}
use Rattle.std.proofs.lemmas.Option.{slice_get_within, get_or_from_slice_get}
use Rattle.world_core.specs.declared.entry.Entry.{Entry}
use Rattle.script_workers.specs.Hands.{same_hand, gateway_of, hands_of, places_from, workers_from, greatest}
use Rattle.script_workers.specs.declared.hand.Hand.{Hand}
use Rattle.script_workers.specs.declared.hand.Hand.TheVariants as hands
use Rattle.script_workers.specs.declared.task.Task.{Task}
use Rattle.script_workers.specs.declared.worker.Worker.{Worker}
use Rattle.script_workers.proofs.HandLaws.{hands_equal, itself}
use Rattle.world_core.specs.Journals.{of_seat}
use Rattle.lifecycle_core.specs.Conducts.{AreDone, CameTo, PhaseRun, TasksAt, TasksRun, WorkerRun}
use Rattle.lifecycle_core.specs.Holdings.{Holding, Holdings, holding_of, with_holding}
use Rattle.lifecycle_core.specs.InLine.{Duty, InLine, duties_from, seat_of}
use Rattle.lifecycle_core.specs.Phases.{by_script}
use Rattle.lifecycle_core.specs.Setting.{Setting}
use Rattle.lifecycle_core.specs.Tasks.{End}
use Rattle.lifecycle_core.proofs.phases.Duties.{part, ends_by, tasks_of}
use Rattle.lifecycle_core.proofs.phases.HandLists.{JoinsAll, joins_from, hands_in}
use Rattle.lifecycle_core.proofs.phases.Places.{IsDuty, all_duties, places_are, places_in, tasks_at, alone_place}
use Rattle.lifecycle_core.proofs.phases.Workers.{IsPlaced, IsWorkerOf, each_worker, seat_among}
use Rattle.lifecycle_core.proofs.phases.TaskRuns.{MayBegin}
use Rattle.lifecycle_core.proofs.phases.WorkerRuns.{Fits, did}

-- ---- what holds of every duty

among_all : (ds : List Duty) (hs : List Hand) → ((x : Hand) → list_any (same_hand x) (hands_in ds) ≡ true → list_any (same_hand x) hs ≡ true)
    → AllByRecursion (λ d. list_any (same_hand d.hand) hs ≡ true) ds
among_all [] hs f = tt
among_all (d ∷ ds) hs f = (
  f d.hand (or_left (same_hand d.hand d.hand) (list_any (same_hand d.hand) (hands_in ds)) (itself d.hand)),
  among_all ds hs (λ x k. f x (or_right (same_hand x d.hand) (list_any (same_hand x) (hands_in ds)) k)),
)

placed_hands : (gateways : ℕ) (tasks : List Task) (ds : List Duty) → AllByRecursion (IsDuty tasks) ds → AllByRecursion (IsPlaced gateways tasks) (hands_in ds)
placed_hands gateways tasks [] all = tt
placed_hands gateways tasks (d ∷ ds) all = (
  λ own e. let u = (all.0).alone own e in
      let at = alone_place gateways 0 d.place tasks d.task (all.0).at u.1 in
      let same : own ≡ 0 + d.place = omega (arith, u.0) in
      subst (λ (h : Hand). places_from gateways h 0 tasks ≡ own ∷ []) (sym e) (subst (λ (n : ℕ). places_from gateways (hands.Alone n) 0 tasks ≡ n ∷ []) (sym same) at),
  placed_hands gateways tasks ds all.1,
)

begins_at : (setting : Setting) (tasks : List Task) (place : ℕ) (task : Task) → All (λ t. MayBegin setting t.work) tasks → slice_get tasks place ≡ Some task
    → MayBegin setting task.work
begins_at setting tasks place task all at =
    subst (λ (t : Task). MayBegin setting t.work) (get_or_from_slice_get tasks place task task at) (all place task (slice_get_within tasks place task at))

all_fit : (setting : Setting) (tasks : List Task) (gateways before : ℕ) (workers : List Worker) (hand : Hand) (worker : Worker) (ds : List Duty)
    → All (λ t. MayBegin setting t.work) tasks → IsWorkerOf gateways tasks before workers hand worker → AllByRecursion (IsDuty tasks) ds
    → AllByRecursion (Fits setting (seat_of workers) hand worker.seat) ds
all_fit setting tasks gateways before workers hand worker [] lawful is all = tt
all_fit setting tasks gateways before workers hand worker (d ∷ ds) lawful is all = (
  record { same = is.same d.hand; other = is.other d.hand; alone = λ p e. ((all.0).alone p e).1; begins = begins_at setting tasks d.place d.task lawful (all.0).at },
  all_fit setting tasks gateways before workers hand worker ds lawful is all.1,
)

-- ---- seats and views

seated : (setting : Setting) (seat : Hand → ℕ) (seats : List ℕ) (views : Holdings) (ds : List Duty) (entries : List Entry) (ends : List End) (after : Holdings)
    → AllByRecursion (λ d. Contains seats (seat d.hand)) ds → InLine setting seat views ds entries ends after → All (λ e. Contains seats e.seat) entries
seated setting seat seats views [] entries ends after each run = subst (All (λ e. Contains seats e.seat)) (sym run.0) (All-nil (λ e. Contains seats e.seat))
seated setting seat seats views (d ∷ ds) entries ends after each (inl r) =
    let rest = seated setting seat seats (with_holding views (gateway_of d.hand) r.4) ds r.1 r.3 after each.1 r.9 in
    subst (All (λ e. Contains seats e.seat)) (sym r.5)
    (All-append (λ e. Contains seats e.seat) r.0 r.1 (λ k x below. subst (Contains seats) (sym (r.6 k x below)) each.0) rest)
seated setting seat seats views (d ∷ ds) entries ends after each (inr r) = λ k x below. subst (Contains seats) (sym (r.1 k x below)) each.0

same_view : (views : Holdings) (hand : Hand) (gateway : ℕ) (used : Holding) → hand ≢ hands.Gateway gateway → with_holding views (gateway_of hand) used gateway ≡ views gateway
same_view views (hands.Alone p) gateway used differ = refl
same_view views (hands.Gateway p) gateway used differ =
    let apart : p ≢ gateway = λ e. differ (ap hands.Gateway e) in
    let e : (gateway == p) ≡ false = grind (arith, nat_tests, apart) in rw e refl

kept_view : (setting : Setting) (seat : Hand → ℕ) (gateway : ℕ) (views : Holdings) (ds : List Duty) (entries : List Entry) (ends : List End) (after : Holdings)
    → AllByRecursion (λ d. d.hand ≢ hands.Gateway gateway) ds → InLine setting seat views ds entries ends after → after gateway ≡ views gateway
kept_view setting seat gateway views [] entries ends after each run = ap (λ (v : Holdings). v gateway) run.2
kept_view setting seat gateway views (d ∷ ds) entries ends after each (inl r) =
    kept_view setting seat gateway (with_holding views (gateway_of d.hand) r.4) ds r.1 r.3 after each.1 r.9
    ∙ same_view views d.hand gateway r.4 each.0
kept_view setting seat gateway views (d ∷ ds) entries ends after each (inr r) = ap (λ (v : Holdings). v gateway) r.4 ∙ same_view views d.hand gateway r.0 each.0

no_first : (gateways before gateway : ℕ) (tasks : List Task) (all : List Worker) (h : Hand) (w : Worker) (b c : Bool) → same_hand (hands.Gateway gateway) h ≡ b → IsWorkerOf gateways tasks before all h w
    → w.gateway ≢ Some gateway → (c ≡ true → ⊥) → (same_hand (hands.Gateway gateway) h || c) ≡ true → ⊥
no_first gateways before gateway tasks all h w true c is worker none later found =
    none (worker.gateway ∙ ap gateway_of (sym (hands_equal (hands.Gateway gateway) h is)))
no_first gateways before gateway tasks all h w false c is worker none later found = later (rw is at found)

no_worker : (gateways before gateway : ℕ) (tasks : List Task) (all : List Worker) (hs : List Hand) (workers : List Worker) → AllZip (IsWorkerOf gateways tasks before all) hs workers
    → All (λ (w : Worker). w.gateway ≢ Some gateway) workers → list_any (same_hand (hands.Gateway gateway)) hs ≡ true → ⊥
no_worker gateways before gateway tasks all [] workers zipped none found = absurd (cc (found))
no_worker gateways before gateway tasks all (h ∷ hs) [] zipped none found = absurd zipped
no_worker gateways before gateway tasks all (h ∷ hs) (w ∷ ws) zipped none found =
    no_first gateways before gateway tasks all h w (same_hand (hands.Gateway gateway) h) (list_any (same_hand (hands.Gateway gateway)) hs) refl zipped.0 (All-head (λ (x : Worker). x.gateway ≢ Some gateway) w ws none)
    (no_worker gateways before gateway tasks all hs ws zipped.1 (All-tail (λ (x : Worker). x.gateway ≢ Some gateway) w ws none)) found

apart_from : (gateways before gateway : ℕ) (tasks : List Task) (all : List Worker) (hs : List Hand) (workers : List Worker) (ds : List Duty) → AllZip (IsWorkerOf gateways tasks before all) hs workers
    → All (λ (w : Worker). w.gateway ≢ Some gateway) workers → AllByRecursion (λ d. list_any (same_hand d.hand) hs ≡ true) ds → AllByRecursion (λ d. d.hand ≢ hands.Gateway gateway) ds
apart_from gateways before gateway tasks all hs workers [] zipped none among = tt
apart_from gateways before gateway tasks all hs workers (d ∷ ds) zipped none among = (
  λ e. no_worker gateways before gateway tasks all hs workers zipped none (subst (λ (h : Hand). list_any (same_hand h) hs ≡ true) e among.0),
  apart_from gateways before gateway tasks all hs workers ds zipped none among.1,
)

-- ---- the ends

part_ends_first : (hand : Hand) (d : Duty) (e : End) (ds : List Duty) (es : List End) (b : Bool) → length (part hand ds) ≡ length (ends_by hand ds es)
    → length (cond b (d ∷ part hand ds) (part hand ds)) ≡ length (cond b (e ∷ ends_by hand ds es) (ends_by hand ds es))
part_ends_first hand d e ds es true same = ap suc same
part_ends_first hand d e ds es false same = same

part_ends : (hand : Hand) (ds : List Duty) (ends : List End) → length ends ≡ length ds → length (part hand ds) ≡ length (ends_by hand ds ends)
unfolding part ends_by
part_ends hand [] ends same = refl
part_ends hand (d ∷ ds) [] same = absurd (omega (arith, same))
part_ends hand (d ∷ ds) (e ∷ es) same = part_ends_first hand d e ds es (same_hand hand d.hand) (part_ends hand ds es (omega (arith, same)))

-- the place and the end of each duty of a hand stand side by side
abbrev Beside : Hand → List ℕ → List End → Duty → End → Type 0
Beside hand places ends d e = same_hand hand d.hand ≡ true → Contains (zip places ends) (d.place, e)

beside_first : (hand : Hand) (d : Duty) (e : End) (ps : List ℕ) (es : List End) (b : Bool) → same_hand hand d.hand ≡ b → Beside hand (cond b (d.place ∷ ps) ps) (cond b (e ∷ es) es) d e
beside_first hand d e ps es true is = λ s. contains_first (d.place, e) (zip ps es)
beside_first hand d e ps es false is = λ s. absurd (cc (s, is))

beside_later : (hand : Hand) (d : Duty) (e : End) (ps : List ℕ) (es : List End) (b : Bool) (x : Duty) (y : End) → Beside hand ps es x y → Beside hand (cond b (d.place ∷ ps) ps) (cond b (e ∷ es) es) x y
beside_later hand d e ps es true x y known = λ s. contains_later (d.place, e) (x.place, y) (zip ps es) (known s)
beside_later hand d e ps es false x y known = known

places_cond : (d : Duty) (ds : List Duty) (b : Bool) → cond b (d.place ∷ places_in ds) (places_in ds) ≡ places_in (cond b (d ∷ ds) ds)
places_cond d ds true = refl
places_cond d ds false = refl

beside : (hand : Hand) (ds : List Duty) (ends : List End) → length ends ≡ length ds → AllZip (Beside hand (places_in (part hand ds)) (ends_by hand ds ends)) ds ends
unfolding part ends_by
beside hand [] [] same = tt
beside hand [] (e ∷ es) same = absurd (omega (arith, same))
beside hand (d ∷ ds) [] same = absurd (omega (arith, same))
beside hand (d ∷ ds) (e ∷ es) same =
    let b = same_hand hand d.hand in
    let ps = places_in (part hand ds) in
    let own = ends_by hand ds es in
    subst (λ (l : List ℕ). AllZip (Beside hand l (cond b (e ∷ own) own)) (d ∷ ds) (e ∷ es)) (places_cond d (part hand ds) b)
    (beside_first hand d e ps own b refl, AllZip-weaker (Beside hand ps own) (Beside hand (cond b (d.place ∷ ps) ps) (cond b (e ∷ own) own)) (λ x y k. beside_later hand d e ps own b x y k) ds es (beside hand ds es (omega (arith, same))))

abbrev pub ends_of : List Duty → List End → List Hand → List (List End)
ends_of ds ends hs = map (λ hand. ends_by hand ds ends) hs

-- the worker of a hand, with its ends
record Served (gateways : ℕ) (tasks : List Task) (workers : List Worker) (all : List (List End)) (ds : List Duty) (ends : List End) (hand : Hand) : Type 0 where
  pub worker : Worker
  pub gateway : worker.gateway ≡ gateway_of hand
  pub places : worker.tasks ≡ places_from gateways hand 0 tasks
  pub among : Contains (zip workers all) (worker, ends_by hand ds ends)

served_later : (gateways : ℕ) (tasks : List Task) (w : Worker) (own : List End) (workers : List Worker) (all : List (List End)) (ds : List Duty) (ends : List End) (hand : Hand)
    → Served gateways tasks workers all ds ends hand → Served gateways tasks (w ∷ workers) (own ∷ all) ds ends hand
served_later gateways tasks w own workers all ds ends hand s = record {
  worker = s.worker;
  gateway = s.gateway;
  places = s.places;
  among = contains_later (w, own) (s.worker, ends_by hand ds ends) (zip workers all) s.among;
}

served_first : (gateways before : ℕ) (tasks : List Task) (all : List Worker) (h : Hand) (w : Worker) (hs : List Hand) (ws : List Worker) (ds : List Duty) (ends : List End) (x : Hand) (b : Bool) → same_hand x h ≡ b
    → IsWorkerOf gateways tasks before all h w → (list_any (same_hand x) hs ≡ true → Served gateways tasks ws (ends_of ds ends hs) ds ends x) → list_any (same_hand x) (h ∷ hs) ≡ true
    → Served gateways tasks (w ∷ ws) (ends_of ds ends (h ∷ hs)) ds ends x
served_first gateways before tasks all h w hs ws ds ends x true is worker later found =
    let e : x ≡ h = hands_equal x h is in
    subst (Served gateways tasks (w ∷ ws) (ends_of ds ends (h ∷ hs)) ds ends) (sym e)
    (record { worker = w; gateway = worker.gateway; places = worker.places; among = contains_first (w, ends_by h ds ends) (zip ws (ends_of ds ends hs)) })
served_first gateways before tasks all h w hs ws ds ends x false is worker later found =
    served_later gateways tasks w (ends_by h ds ends) ws (ends_of ds ends hs) ds ends x (later (rw is at found))

served : (gateways before : ℕ) (tasks : List Task) (all : List Worker) (hs : List Hand) (ws : List Worker) (ds : List Duty) (ends : List End) (x : Hand) → AllZip (IsWorkerOf gateways tasks before all) hs ws
    → list_any (same_hand x) hs ≡ true → Served gateways tasks ws (ends_of ds ends hs) ds ends x
served gateways before tasks all [] ws ds ends x zipped found = absurd (cc (found))
served gateways before tasks all (h ∷ hs) [] ds ends x zipped found = absurd zipped
served gateways before tasks all (h ∷ hs) (w ∷ ws) ds ends x zipped found =
    served_first gateways before tasks all h w hs ws ds ends x (same_hand x h) refl zipped.0 (served gateways before tasks all hs ws ds ends x zipped.1) found

done_by : (gateways before : ℕ) (tasks : List Task) (all : List Worker) (hs : List Hand) (ws : List Worker) (ds : List Duty) (ends : List End) → ds ≡ duties_from gateways 0 tasks → length ends ≡ length ds
    → AllZip (IsWorkerOf gateways tasks before all) hs ws → AreDone ws (ends_of ds ends hs)
done_by gateways before tasks all [] [] ds ends are same zipped = refl
done_by gateways before tasks all [] (w ∷ ws) ds ends are same zipped = absurd zipped
done_by gateways before tasks all (h ∷ hs) [] ds ends are same zipped = absurd zipped
done_by gateways before tasks all (h ∷ hs) (w ∷ ws) ds ends are same zipped =
    let n : length w.tasks ≡ length (ends_by h ds ends) =
    ap length ((zipped.0).places ∙ places_are gateways h 0 tasks ∙ ap (λ (l : List Duty). places_in (part h l)) (sym are))
    ∙ length-map (part h ds) (λ (d : Duty). d.place) ∙ part_ends h ds ends same in
    let rest : AreDone ws (ends_of ds ends hs) = done_by gateways before tasks all hs ws ds ends are same zipped.1 in
    ap (λ (k : ℕ). k ∷ map (λ (x : Worker). length x.tasks) ws) n ∙ ap (λ (l : List ℕ). length (ends_by h ds ends) ∷ l) rest

-- where some duty has no end, some hand has fewer ends than tasks
short_first : (hand : Hand) (d : Duty) (e : End) (ds : List Duty) (es : List End) (b : Bool) → length (ends_by hand ds es) < length (part hand ds)
    → length (cond b (e ∷ ends_by hand ds es) (ends_by hand ds es)) < length (cond b (d ∷ part hand ds) (part hand ds))
short_first hand d e ds es true less = omega (arith, less)
short_first hand d e ds es false less = less

short_own : (d : Duty) (ds : List Duty) (b : Bool) → same_hand d.hand d.hand ≡ b → length {A = End} [] < length (cond b (d ∷ part d.hand ds) (part d.hand ds))
short_own d ds true is = omega arith
short_own d ds false is = absurd (cc (is, itself d.hand))

short_hand : (hs : List Hand) (ds : List Duty) (ends : List End) → length ends < length ds → AllByRecursion (λ d. list_any (same_hand d.hand) hs ≡ true) ds
    → (hand : Hand) × (list_any (same_hand hand) hs ≡ true) × (length (ends_by hand ds ends) < length (part hand ds))
unfolding part ends_by
short_hand hs [] ends less among = absurd (omega (arith, less))
short_hand hs (d ∷ ds) [] less among = (d.hand, among.0, short_own d ds (same_hand d.hand d.hand) refl)
short_hand hs (d ∷ ds) (e ∷ es) less among =
    let rest = short_hand hs ds es (omega (arith, less)) among.1 in
    (rest.0, rest.1, short_first rest.0 d e ds es (same_hand rest.0 d.hand) rest.2)

undone_first : (gateways before : ℕ) (tasks : List Task) (all : List Worker) (hand h : Hand) (w : Worker) (ds : List Duty) (ends : List End) (b c : Bool) → ds ≡ duties_from gateways 0 tasks
    → length (ends_by hand ds ends) < length (part hand ds) → IsWorkerOf gateways tasks before all h w → same_hand hand h ≡ b → length w.tasks ≡ length (ends_by h ds ends) → (c ≡ true → ⊥) → (same_hand hand h || c) ≡ true → ⊥
undone_first gateways before tasks all hand h w ds ends true c are less worker is first later found =
    let same : hand ≡ h = hands_equal hand h is in
    let less' : length (ends_by h ds ends) < length (part h ds) = subst (λ (x : Hand). length (ends_by x ds ends) < length (part x ds)) same less in
    let n : length w.tasks ≡ length (part h ds) =
    ap length (worker.places ∙ places_are gateways h 0 tasks ∙ ap (λ (l : List Duty). places_in (part h l)) (sym are)) ∙ length-map (part h ds) (λ (d : Duty). d.place) in
    absurd (omega (arith, less', n, first))
undone_first gateways before tasks all hand h w ds ends false c are less worker is first later found = later (rw is at found)

undone_by : (gateways before : ℕ) (tasks : List Task) (all : List Worker) (hand : Hand) (hs : List Hand) (ws : List Worker) (ds : List Duty) (ends : List End) → ds ≡ duties_from gateways 0 tasks
    → length (ends_by hand ds ends) < length (part hand ds) → AllZip (IsWorkerOf gateways tasks before all) hs ws → list_any (same_hand hand) hs ≡ true → AreDone ws (ends_of ds ends hs) → ⊥
undone_by gateways before tasks all hand [] ws ds ends are less zipped found done = absurd (cc (found))
undone_by gateways before tasks all hand (h ∷ hs) [] ds ends are less zipped found done = absurd zipped
undone_by gateways before tasks all hand (h ∷ hs) (w ∷ ws) ds ends are less zipped found done =
    let first : length w.tasks ≡ length (ends_by h ds ends) = cc (done) in
    let later : AreDone ws (ends_of ds ends hs) = cc (done) in
    undone_first gateways before tasks all hand h w ds ends (same_hand hand h) (list_any (same_hand hand) hs) are less zipped.0 refl first
    (λ more. undone_by gateways before tasks all hand hs ws ds ends are less zipped.1 more later) found

-- ---- the phase

module _ (setting : Setting) (gateways before : ℕ) (tasks : List Task) (views after : Holdings) (entries : List Entry) (ends : List End) where
  abbrev own_hands : List Hand
  own_hands = hands_of gateways tasks

  abbrev own_workers : List Worker
  own_workers = workers_from gateways before tasks (hands_of gateways tasks)

  abbrev own_duties : List Duty
  own_duties = duties_from gateways 0 tasks

  duties_are : AllByRecursion (IsDuty tasks) own_duties
  duties_are = all_duties tasks gateways 0 tasks (λ k. ap (slice_get tasks) (omega arith))

  hands_join : (P : Hand → Type 0) → JoinsAll P [] (hands_in own_duties) own_hands
  hands_join P = joins_from P gateways [] 0 tasks

  hands_placed : AllByRecursion (IsPlaced gateways tasks) own_hands
  hands_placed = (hands_join (IsPlaced gateways tasks)).each (placed_hands gateways tasks own_duties duties_are) tt

  hands_among : AllByRecursion (λ d. list_any (same_hand d.hand) own_hands ≡ true) own_duties
  hands_among = among_all own_duties own_hands (λ x k. (hands_join (IsPlaced gateways tasks)).added x k)

  workers_are : before + length own_hands ≤ greatest → AllZip (IsWorkerOf gateways tasks before own_workers) own_hands own_workers
  workers_are room = each_worker gateways tasks before own_hands hands_placed ((hands_join (IsPlaced gateways tasks)).apart tt) room

  worker_run : All (λ t. MayBegin setting t.work) tasks
      → InLine setting (seat_of own_workers) views own_duties entries ends after → (hand : Hand) (worker : Worker) → IsWorkerOf gateways tasks before own_workers hand worker
      → WorkerRun (by_script setting) tasks views entries after worker (ends_by hand own_duties ends)
  worker_run lawful run hand worker is =
      let places : places_in (part hand own_duties) ≡ worker.tasks = sym (is.places ∙ places_are gateways hand 0 tasks) in
      let runs = did setting (seat_of own_workers) hand worker.seat entries views own_duties entries ends after (all_fit setting tasks gateways before own_workers hand worker own_duties lawful is duties_are) run in
      record {
        own = tasks_of (part hand own_duties);
        are = subst (λ (ps : List ℕ). TasksAt tasks ps (tasks_of (part hand own_duties))) places (tasks_at hand tasks own_duties duties_are);
        last = holding_of after (gateway_of hand);
        runs = subst (λ (g : Option ℕ). TasksRun (by_script setting) (record { seat = worker.seat; gateway = g }) entries (holding_of views g) (tasks_of (part hand own_duties)) (of_seat worker.seat entries) (ends_by hand own_duties ends) (holding_of after (gateway_of hand))) (sym is.gateway) runs;
        leaves = λ g e. sym (ap (holding_of after) (sym is.gateway ∙ e));
      }

  all_runs : All (λ t. MayBegin setting t.work) tasks
      → InLine setting (seat_of own_workers) views own_duties entries ends after → (hs : List Hand) (ws : List Worker) → AllZip (IsWorkerOf gateways tasks before own_workers) hs ws
      → AllZip (WorkerRun (by_script setting) tasks views entries after) ws (ends_of own_duties ends hs)
  all_runs lawful run [] [] zipped = tt
  all_runs lawful run [] (w ∷ ws) zipped = absurd zipped
  all_runs lawful run (h ∷ hs) [] zipped = absurd zipped
  all_runs lawful run (h ∷ hs) (w ∷ ws) zipped = (worker_run lawful run h w zipped.0, all_runs lawful run hs ws zipped.1)

  seats_known : (ds : List Duty) → AllByRecursion (λ d. list_any (same_hand d.hand) own_hands ≡ true) ds
      → AllByRecursion (λ d. Contains (map (λ (w : Worker). w.seat) own_workers) (seat_of own_workers d.hand)) ds
  seats_known [] among = tt
  seats_known (d ∷ ds) among = (seat_among gateways tasks before own_hands d.hand hands_placed among.0, seats_known ds among.1)

  came_one : before + length own_hands ≤ greatest → (d : Duty) (e : End) → list_any (same_hand d.hand) own_hands ≡ true
      → ((hand : Hand) → Beside hand (places_in (part hand own_duties)) (ends_by hand own_duties ends) d e)
      → CameTo own_workers (ends_of own_duties ends own_hands) (gateway_of d.hand) d.place e
  came_one room d e among near =
      let s = served gateways before tasks own_workers own_hands own_workers own_duties ends d.hand (workers_are room) among in
      let places : places_in (part d.hand own_duties) ≡ (s.worker).tasks = sym (s.places ∙ places_are gateways d.hand 0 tasks) in
      record {
        worker = s.worker;
        own = ends_by d.hand own_duties ends;
        among = s.among;
        is = s.gateway;
        came = subst (λ (ps : List ℕ). Contains (zip ps (ends_by d.hand own_duties ends)) (d.place, e)) places (near d.hand (itself d.hand));
      }

  came_all : before + length own_hands ≤ greatest → (ds : List Duty) (es : List End) → AllByRecursion (λ d. list_any (same_hand d.hand) own_hands ≡ true) ds
      → ((hand : Hand) → AllZip (Beside hand (places_in (part hand own_duties)) (ends_by hand own_duties ends)) ds es)
      → AllZip (λ d e. CameTo own_workers (ends_of own_duties ends own_hands) (gateway_of d.hand) d.place e) ds es
  came_all room [] [] among near = tt
  came_all room [] (e ∷ es) among near = absurd (near (hands.Alone 0))
  came_all room (d ∷ ds) [] among near = absurd (near (hands.Alone 0))
  came_all room (d ∷ ds) (e ∷ es) among near = (came_one room d e among.0 (λ h. (near h).0), came_all room ds es among.1 (λ h. (near h).1))

  -- the phase's run, by its workers
  pub phase_run : before + length own_hands ≤ greatest → All (λ t. MayBegin setting t.work) tasks
      → InLine setting (seat_of own_workers) views own_duties entries ends after
      → PhaseRun (by_script setting) tasks own_workers views entries (ends_of own_duties ends own_hands) after
  phase_run room lawful run = record {
    seats = All-weaker (λ e. Contains (map (λ (w : Worker). w.seat) own_workers) e.seat) (λ e. Contains (map (λ (w : Worker). w.seat) own_workers) e.seat ⊎ ⊥) (λ e sits. inl sits) entries
        (seated setting (seat_of own_workers) (map (λ (w : Worker). w.seat) own_workers) views own_duties entries ends after (seats_known own_duties hands_among) run);
    runs = all_runs lawful run own_hands own_workers (workers_are room);
    kept = λ g none. kept_view setting (seat_of own_workers) g views own_duties entries ends after (apart_from gateways before g tasks own_workers own_hands own_workers own_duties (workers_are room) none hands_among) run;
  }

  -- each duty's end is one to which its worker came
  pub phase_came : before + length own_hands ≤ greatest → length ends ≡ length own_duties
      → AllZip (λ d e. CameTo own_workers (ends_of own_duties ends own_hands) (gateway_of d.hand) d.place e) own_duties ends
  phase_came room same = came_all room own_duties ends hands_among (λ hand. beside hand own_duties ends same)

  pub phase_done : before + length own_hands ≤ greatest → length ends ≡ length own_duties → AreDone own_workers (ends_of own_duties ends own_hands)
  phase_done room same = done_by gateways before tasks own_workers own_hands own_workers own_duties ends refl same (workers_are room)

  -- where some duty has no end, the phase is not done
  pub phase_undone : before + length own_hands ≤ greatest → length ends < length own_duties → AreDone own_workers (ends_of own_duties ends own_hands) → ⊥
  phase_undone room less done =
      let short = short_hand own_hands own_duties ends less hands_among in
      undone_by gateways before tasks own_workers short.0 own_hands own_workers own_duties ends refl short.2 (workers_are room) short.1 done
