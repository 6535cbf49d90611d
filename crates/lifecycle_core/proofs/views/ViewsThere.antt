-- Whoever is asked has a view: in a lawful script each gateway has a sync before each query, and a phase begins only when
-- all syncs of the one before have come to their ends.
use Rattle.base.proofs.Membership.{contains_first, contains_later}
use Rattle.base.proofs.Pairs.{AllZip-first, AllZip-second}
use Rattle.std.proofs.Common.{◌≡◌, ◌≢◌, ◌⊎◌, inl, inr, ℕ, zero, suc, ◌+◌, ◌<◌, ◌≤◌, ◌==◌, ◌||◌, Bool, IsTrue, true, false, cond, List, [], ◌∷◌, ◌++◌, length, Contains, Option, Some, None, refl, sym, ◌∙◌, ap, subst, arith}
use Rattle.std.specs.Prelude.{slice_get, option_map}
use Rattle.std.specs.List.{All, AllByRecursion, AllZip, list_any}
use Rattle.std.proofs.Math.Bool.{or-false, or_assoc}
use Rattle.std.proofs.Math.Nat.{min-le_left}
use Rattle.std.proofs.lemmas.Bool.{or_cases}
use Rattle.std.proofs.lemmas.Bool.Decides.{nat_tests}
use Rattle.std.proofs.lemmas.List.Elements.{All-cons, All-head, All-nil, All-tail}
use Rattle.world_core.specs.declared.entry.Entry.{Entry}
use Rattle.meta_fetcher.specs.declared.view.View.{View}
use Rattle.meta_fetcher.specs.declared.sync.SyncEnd.{SyncEnd}
use Rattle.meta_fetcher.specs.declared.sync.SyncEnd.TheVariants as fetched
use Rattle.store_ranges.specs.Reads.{Query as Question}
use Rattle.script_workers.specs.Hands.{does, gateway_count, gateway_of, greatest, hands_of, places_from, same_hand, seats_after, worker_of, workers_from}
use Rattle.script_core.specs.Workers.{seats_before, workers_after, workers_of}
use Rattle.script_core.specs.Lawful.{IsLawfulScript}
use Rattle.script_workers.specs.Whose.{AreEnough, IsFor, does_alone, syncs, asks}
use Rattle.script_workers.specs.Works.{asks_all, has_sync, is_sync_of, works_in, works_of}
use Rattle.script_workers.specs.declared.hand.Hand.{Hand}
use Rattle.script_workers.specs.declared.hand.Hand.TheVariants as hands
use Rattle.script_workers.specs.declared.phase.Phase.{Phase}
use Rattle.script_workers.specs.declared.task.Task.{Task}
use Rattle.script_workers.specs.declared.work.Work.{Work}
use Rattle.script_workers.specs.declared.work.Work.TheVariants.{Upload, Sync, Compact, Clean, Query}
use Rattle.script_workers.specs.declared.worker.Worker.{Worker}
use Rattle.script_workers.proofs.HandLaws.{does_for, for_does, tested, hands_equal}
use Rattle.script_workers.proofs.StaffLaws.{is_staff, next_place}
use Rattle.lifecycle_core.specs.Causes.{SomeCame}
use Rattle.compactor.specs.Compactions.{compaction}
use Rattle.cleaner.specs.Cleanings.{cleaning}
use Rattle.world_core.specs.Journals.{of_seat}
use Rattle.lifecycle_core.specs.Conducts.{AreDone, Assigned, PhaseRun, TasksAt, TasksRun, Who, WorkerRun}
use Rattle.lifecycle_core.specs.Holdings.{Holding, Holdings, Use, holding_of, none_held, nothing_held}
use Rattle.lifecycle_core.specs.Phases.{IsInTurn, IsRunOf, by_script, by_workers}
use Rattle.lifecycle_core.specs.Setting.{Setting}
use Rattle.querier.specs.declared.asking.Ask.{Ask}
use Rattle.store_calls.specs.SeriesCalls.{CallEnd}
use Rattle.lifecycle_core.specs.Tasks.{End, PartTask, QueryTask, TaskRun, answered, ask_to, cleaned, compacted, question_of, synced, synced_with, without_view}
use Rattle.lifecycle_core.specs.Ways.{AreInTurn, PhasesRun}
use Rattle.lifecycle_core.proofs.phases.GatewayParts.{query_is}
use Rattle.lifecycle_core.proofs.phases.ShipEnds.{ship_end, stopped_end}
use Rattle.lifecycle_core.proofs.phases.TaskRuns.{task_leaves, tasks_long}

-- there is a view
abbrev IsThere : Option Use → Type 0
IsThere None = ⊥
IsThere (Some used) = Unit {0}

-- a worker holds a view
abbrev HasView : Holding → Type 0
HasView held = IsThere held.used

-- an end that is a sync's gives a view
abbrev GivesView : End → Type 0
GivesView end = (e : SyncEnd) → end ≡ synced e → (v : View) × (e ≡ fetched.View v)

or_none : (a b : Bool) → b ≡ false → (a || b) ≡ true → a ≡ true
or_none true b is h = refl
or_none false b is h = absurd (cc (is, h))

-- ---- syncs before what asks all gateways

-- a task that asks all gateways
abbrev IsAsking : Work → Type 0
IsAsking w = IsTrue (asks_all w)

module _ (count g : ℕ) where
  -- such a task comes only after a sync of the gateway, which may have been seen before
  abbrev AreSynced : Bool → List Work → Type 0
  AreSynced seen [] = Unit {0}
  AreSynced seen (w ∷ works) = (IsAsking w → g < count → seen ≡ true) × AreSynced (seen || is_sync_of g w) works

  -- the same, said of each place where such a task stands
  abbrev AreOrdered : Bool → List Work → Type 0
  AreOrdered seen works = (before after : List Work) (work : Work) → works ≡ before ++ work ∷ after → IsAsking work → g < count → (seen || has_sync before g) ≡ true

  first_synced : (seen : Bool) (w : Work) (works : List Work) → AreOrdered seen (w ∷ works) → IsAsking w → g < count → seen ≡ true
  first_synced seen w works ordered is below = or_none seen false refl (ordered [] works w refl is below)

  are_synced : (seen : Bool) (works : List Work) → AreOrdered seen works → AreSynced seen works
  are_synced seen [] ordered = tt
  are_synced seen (w ∷ works) ordered = (
    first_synced seen w works ordered,
    are_synced (seen || is_sync_of g w) works (λ before after work at is below. or_assoc seen (is_sync_of g w) (has_sync before g) ∙ ordered (w ∷ before) after work (ap (λ l. w ∷ l) at) is below),
  )

  synced_parts : (seen : Bool) (xs ys : List Work) → AreSynced seen (xs ++ ys) → AreSynced seen xs × AreSynced (seen || has_sync xs g) ys
  synced_parts seen [] ys all = (tt, subst (λ b. AreSynced b ys) (sym (or-false seen)) all)
  synced_parts seen (x ∷ xs) ys all =
      let rest = synced_parts (seen || is_sync_of g x) xs ys all.1 in
      ((all.0, rest.0), subst (λ b. AreSynced b ys) (or_assoc seen (is_sync_of g x) (has_sync xs g)) rest.1)

-- ---- a task's end

sync_end : (held after : Holding) (made : List Entry) (end : End) (own : Option SyncEnd) → GivesView end → Some end ≡ option_map synced own → after ≡ synced_with held made own → HasView after × (end ≢ without_view)
sync_end held after made end None good is left = absurd (cc (is))
sync_end held after made end (Some e) good is left =
    let same : end ≡ synced e = cc (is) in
    let v = good e same in
    let all : after ≡ synced_with held made (Some (fetched.View v.0)) = left ∙ ap (λ (x : SyncEnd). synced_with held made (Some x)) v.1 in
    (subst HasView (sym all) tt, λ no. absurd (cc (same, no)))

call_end : (from : Use) (end : End) (own : Option CallEnd) → Some end ≡ option_map (λ (call : CallEnd). answered from call.end) own → end ≢ without_view
call_end from end None is = absurd (cc (is))
call_end from end (Some call) is = λ no. cc (is, no)

query_end : (used : Option Use) (asked : Option Question) (before after : Holding) (made : List Entry) (end : End) → IsThere used → QueryTask used asked before made (Some end) after → end ≢ without_view
query_end used asked before after made end has run = elim (query_is used asked before made (Some end) after run) [
  | inl none ↦ absurd (subst IsThere none.1 has)
  | inr call ↦ call_end call.from end call.own call.came
]

part_end : (setting : Setting) (selector : ℕ) (ask : Option Ask) (before after : Holding) (made : List Entry) (end : End) → IsThere before.used → PartTask setting selector ask before made (Some end) after → end ≢ without_view
part_end setting selector None before after made end has ((nil, inl none), left) = absurd (cc (none))
part_end setting selector None before after made end has ((nil, inr same), left) = λ no. cc (same, no)
part_end setting selector (Some ask) before after made end has run = query_end before.used (question_of setting selector ask) before after made end has run

-- with a view where one is needed, no task ends for want of one
ends_well : (setting : Setting) (who : Who) (place : ℕ) (w : Work) (held after : Holding) (made : List Entry) (end : End) → GivesView end → (IsAsking w → HasView held) → TaskRun setting who place w held made (Some end) after → end ≢ without_view
ends_well setting who place (Upload ulid stop) held after made end good known ((block, is, shipped), left) =
    ship_end (λ (x : End). x ≢ without_view) setting block stop made end (λ objects own run no. cc (no)) (λ cause no. cc (no)) (λ n no. cc (no)) shipped
ends_well setting who place (Sync gateway) held after made end good known (own, run, is, left) = (sync_end held after made end own good is left).1
ends_well setting who place (Compact stop) held after made end good known (run, left) =
    stopped_end (λ (x : End). x ≢ without_view) (compaction setting.script.rules) compacted stop made end (λ own run no. cc (no)) (λ n no. cc (no)) run
ends_well setting who place (Clean stop) held after made end good known (run, left) =
    stopped_end (λ (x : End). x ≢ without_view) (cleaning setting.script.rules) cleaned stop made end (λ own run no. cc (no)) (λ n no. cc (no)) run
ends_well setting who place (Query low high selector) held after made end good known run = part_end setting selector (ask_to setting who.gateway low high) held after made end (known refl) run

-- and a view is there after it where a sync was seen before it, or it is one
leaves_well : (setting : Setting) (g : ℕ) (seen : Bool) (who : Who) (place : ℕ) (w : Work) (held after : Holding) (made : List Entry) (end : End) → GivesView end → (seen ≡ true → HasView held) → TaskRun setting who place w held made (Some end) after → (seen || is_sync_of g w) ≡ true
    → HasView after
leaves_well setting g seen who place (Upload ulid stop) held after made end good known (run, left) h = subst HasView (sym left) (known (or_none seen false refl h))
leaves_well setting g seen who place (Sync gateway) held after made end good known (own, run, is, left) h = (sync_end held after made end own good is left).0
leaves_well setting g seen who place (Compact stop) held after made end good known (run, left) h = subst HasView (sym left) (known (or_none seen false refl h))
leaves_well setting g seen who place (Clean stop) held after made end good known (run, left) h = subst HasView (sym left) (known (or_none seen false refl h))
leaves_well setting g seen who place (Query low high selector) held after made end good known run h =
    let has : HasView held = known (or_none seen false refl h) in
    task_leaves HasView setting who place held has made (Query low high selector) (Some end) after (λ gateway own is. absurd (cc (is))) (λ used asked call is ran. has) run

-- ---- a gateway's own tasks

sync_apart : (gateways g own place : ℕ) (b : Bool) → (own == g) ≡ b → does gateways (hands.Gateway g) place (Sync own) ≡ false → b ≡ false
sync_apart gateways g own place true test is =
    let same : g ≡ own = grind (arith, nat_tests, test) in
    let all : does gateways (hands.Gateway g) place (Sync own) ≡ true = for_does gateways (hands.Gateway g) place (Sync own) (syncs own refl (ap (λ n. hands.Gateway n) same)) in
    absurd (cc (is, all))
sync_apart gateways g own place false test is = refl

-- what is not a gateway's is no sync of it
not_own : (gateways g place : ℕ) (w : Work) → does gateways (hands.Gateway g) place w ≡ false → is_sync_of g w ≡ false
not_own gateways g place (Upload ulid stop) is = refl
not_own gateways g place (Sync own) is = sync_apart gateways g own place (own == g) refl is
not_own gateways g place (Compact stop) is = refl
not_own gateways g place (Clean stop) is = refl
not_own gateways g place (Query low high selector) is = refl

for_asking : (gateways g place : ℕ) (w : Work) → IsFor gateways (hands.Gateway g) place w → IsAsking w → g < gateways
for_asking gateways g place w (does_alone none apart who) query = absurd (cc (who))
for_asking gateways g place w (syncs gateway is who) query = absurd (cc (subst IsAsking is query))
for_asking gateways g place w (asks gateway is who below) query = let same : g ≡ gateway = cc (who) in subst (λ n. n < gateways) (sym same) below

for_alone : (gateways p place : ℕ) (w : Work) → IsFor gateways (hands.Alone p) place w → IsAsking w → ⊥
for_alone gateways p place w (does_alone none apart who) query = cc (none, query)
for_alone gateways p place w (syncs gateway is who) query = cc (subst IsAsking is query)
for_alone gateways p place w (asks gateway is who below) query = absurd (cc (who))

-- the tasks of a hand, from a place on
unfoldable owned : ℕ → Hand → ℕ → List Task → List Assigned
owned gateways hand base [] = []
owned gateways hand base (task ∷ tasks) =
    cond (does gateways hand base task.work) (record { place = base; task = task } ∷ owned gateways hand (base + 1) tasks) (owned gateways hand (base + 1) tasks)

owned_by : (whole : List Task) (base : ℕ) (task : Task) (places : List ℕ) (others found : List Assigned) (b : Bool) → slice_get whole base ≡ Some task → ((f : List Assigned) → TasksAt whole places f → f ≡ others)
    → TasksAt whole (cond b (base ∷ places) places) found → found ≡ cond b (record { place = base; task = task } ∷ others) others
owned_by whole base task places others [] true is later at = absurd at
owned_by whole base task places others (t ∷ found) true is later at =
    let one : t.task ≡ task = cc (is, (at.0).1) in
    let more : found ≡ others = later found at.1 in
    λ i. record { place = (at.0).0 i; task = one i } ∷ more i
owned_by whole base task places others found false is later at = later found at

-- they stand at the hand's places
owned_are : (gateways : ℕ) (hand : Hand) (whole : List Task) (base : ℕ) (tasks : List Task) (found : List Assigned) → ((k : ℕ) → slice_get tasks k ≡ slice_get whole (base + k)) → TasksAt whole (places_from gateways hand base tasks) found
    → found ≡ owned gateways hand base tasks
unfolding places_from owned
owned_are gateways hand whole base [] found tails at = at
owned_are gateways hand whole base (task ∷ tasks) found tails at =
    let zeroth : base + 0 ≡ base = omega arith in
    owned_by whole base task (places_from gateways hand (base + 1) tasks) (owned gateways hand (base + 1) tasks) found (does gateways hand base task.work)
    (sym (tails 0 ∙ ap (slice_get whole) zeroth))
    (λ f are. owned_are gateways hand whole (base + 1) tasks f (λ k. tails (suc k) ∙ ap (slice_get whole) (next_place base k)) are) at

-- ---- a worker's tasks

abbrev GiveViews : List End → Type 0
GiveViews ends = (end : End) → Contains ends end → GivesView end

not_first : (end : End) (later : List End) → end ≢ without_view → (Contains later without_view → ⊥) → Contains (end ∷ later) without_view → ⊥
not_first end later one more (zero, below, is) = one is
not_first end later one more (suc k, below, is) = more (k, omega (arith, below), is)

not_in : (ends : List End) → ends ≡ [] → Contains ends without_view → ⊥
not_in [] none (k, below, is) = omega (arith, below)
not_in (end ∷ ends) none among = absurd (cc (none))

module _ (setting : Setting) where
  -- no task among these asks
  abbrev NoneAsking : List Assigned → Type 0
  NoneAsking own = AllByRecursion (λ (t : Assigned). IsAsking t.task.work → ⊥) own

  none_asking_by : (task : Assigned) (others : List Assigned) (b : Bool) → (b ≡ true → IsAsking task.task.work → ⊥) → NoneAsking others → NoneAsking (cond b (task ∷ others) others)
  none_asking_by task others true one rest = (one refl, rest)
  none_asking_by task others false one rest = rest

  none_asking : (gateways p base : ℕ) (tasks : List Task) → NoneAsking (owned gateways (hands.Alone p) base tasks)
  unfolding owned
  none_asking gateways p base [] = tt
  none_asking gateways p base (task ∷ tasks) =
      none_asking_by (record { place = base; task = task }) (owned gateways (hands.Alone p) (base + 1) tasks) (does gateways (hands.Alone p) base task.work) (λ is. for_alone gateways p base task.work (does_for gateways (hands.Alone p) base task.work is))
      (none_asking gateways p (base + 1) tasks)

  -- who asks nothing never wants for a view
  unasked : (who : Who) (all : List Entry) (own : List Assigned) (held last : Holding) (entries : List Entry) (ends : List End) → NoneAsking own → GiveViews ends → TasksRun (by_script setting) who all held own entries ends last → Contains ends without_view → ⊥
  unasked who all [] held last entries ends none good (nil, is, same) = not_in ends is
  unasked who all (task ∷ own) held last entries ends none good (inr (run, is)) = not_in ends is
  unasked who all (task ∷ own) held last entries ends none good (inl (made, others, end, later, next, parts, run, is, rest)) =
      let gives : GiveViews (end ∷ later) = subst GiveViews is good in
      let one : end ≢ without_view = ends_well setting who task.place task.task.work held next made end (gives end (contains_first end later)) (λ query. absurd (none.0 query)) run in
      let more = unasked who all own next last others later none.1 (λ e among. gives e (contains_later end e later among)) rest in
      λ among. not_first end later one more (subst (λ l. Contains l without_view) is among)

  -- where a sync that was seen gave a view, these tasks ask one, and where they are done, each sync that is seen then gave one
  abbrev AreAsked : Bool → Bool → List Assigned → Type 0
  AreAsked seen final own =
      (who : Who) (all : List Entry) (held last : Holding) (entries : List Entry) (ends : List End) → (seen ≡ true → HasView held) → GiveViews ends → TasksRun (by_script setting) who all held own entries ends last
      → (Contains ends without_view → ⊥) × (length ends ≡ length own → final ≡ true → HasView last)

  module _ (g : ℕ) where
    asked_one : (seen final : Bool) (task : Assigned) (others : List Assigned) → (IsAsking task.task.work → seen ≡ true) → AreAsked (seen || is_sync_of g task.task.work) final others → AreAsked seen final (task ∷ others)
    asked_one seen final task others query rest who all held last entries ends known good (inr (run, is)) =
        (not_in ends is, λ long h. let none : length ends ≡ 0 = ap length is in absurd (omega (arith, none, long)))
    asked_one seen final task others query rest who all held last entries ends known good (inl (made, more, end, later, next, parts, run, is, go)) =
        let gives : GiveViews (end ∷ later) = subst GiveViews is good in
        let own = gives end (contains_first end later) in
        let one : end ≢ without_view = ends_well setting who task.place task.task.work held next made end own (λ q. known (query q)) run in
        let tail = rest who all next last more later (leaves_well setting g seen who task.place task.task.work held next made end own known run) (λ e among. gives e (contains_later end e later among)) go in
        let size : length ends ≡ suc (length later) = ap length is in
        (λ among. not_first end later one tail.0 (subst (λ l. Contains l without_view) is among), λ long. tail.1 (omega (arith, size, long)))

    asked_by_test : (seen final : Bool) (task : Assigned) (others : List Assigned) (b : Bool) → (b ≡ true → IsAsking task.task.work → seen ≡ true) → (b ≡ false → is_sync_of g task.task.work ≡ false)
        → AreAsked (seen || is_sync_of g task.task.work) final others → AreAsked seen final (cond b (task ∷ others) others)
    asked_by_test seen final task others true query apart rest = asked_one seen final task others (query refl) rest
    asked_by_test seen final task others false query apart rest = λ who all held last entries ends known good run.
        rest who all held last entries ends (λ h. known (or_none seen (is_sync_of g task.task.work) (apart refl) h)) good run

    are_asked : (gateways count : ℕ) → gateways ≤ count → (seen : Bool) (base : ℕ) (tasks : List Task) → AreSynced count g seen (works_in tasks) → AreAsked seen (seen || has_sync (works_in tasks) g) (owned gateways (hands.Gateway g) base tasks)
    unfolding owned
    are_asked gateways count few seen base [] ordered = λ who all held last entries ends known good run.
        (not_in ends run.1, λ long h. subst HasView (sym run.2) (known (or_none seen false refl h)))
    are_asked gateways count few seen base (task ∷ tasks) all =
        asked_by_test seen (seen || has_sync (works_in (task ∷ tasks)) g) (record { place = base; task = task }) (owned gateways (hands.Gateway g) (base + 1) tasks) (does gateways (hands.Gateway g) base task.work)
        (λ is query. let below = for_asking gateways g base task.work (does_for gateways (hands.Gateway g) base task.work is) query in all.0 query (omega (arith, below, few)))
        (not_own gateways g base task.work)
        (subst (λ f. AreAsked (seen || is_sync_of g task.work) f (owned gateways (hands.Gateway g) (base + 1) tasks)) (or_assoc seen (is_sync_of g task.work) (has_sync (works_in tasks) g))
        (are_asked gateways count few (seen || is_sync_of g task.work) (base + 1) tasks all.1))

-- ---- a phase's workers

found_hand : (g : ℕ) (h : Hand) (b c : Bool) → same_hand (hands.Gateway g) h ≡ b → gateway_of h ≢ Some g → (c ≡ true → ⊥) → (b || c) ≡ true → ⊥
found_hand g h true c is none later found = none (ap gateway_of (sym (hands_equal (hands.Gateway g) h is)))
found_hand g h false c is none later found = later found

sync_for : (gateways g place : ℕ) (w : Work) → is_sync_of g w ≡ true → IsFor gateways (hands.Gateway g) place w
sync_for gateways g place (Upload ulid stop) is = absurd (cc (is))
sync_for gateways g place (Sync own) is = let same : g ≡ own = grind (arith, nat_tests, is) in syncs own refl (ap (λ n. hands.Gateway n) same)
sync_for gateways g place (Compact stop) is = absurd (cc (is))
sync_for gateways g place (Clean stop) is = absurd (cc (is))
sync_for gateways g place (Query low high selector) is = absurd (cc (is))

-- a sync that is among the tasks
sync_task : (gateways g base : ℕ) (tasks : List Task) → has_sync (works_in tasks) g ≡ true → (k : ℕ) × (task : Task) × (slice_get tasks k ≡ Some task) × IsFor gateways (hands.Gateway g) (base + k) task.work
sync_task gateways g base [] h = absurd (cc (h))
sync_task gateways g base (task ∷ tasks) h = elim (or_cases (is_sync_of g task.work) (has_sync (works_in tasks) g) h) [
  | inl here ↦ (0, task, refl, sync_for gateways g (base + 0) task.work here)
  | inr later ↦
      let found = sync_task gateways g (base + 1) tasks later in
      (suc found.0, found.1, found.2, subst (λ n. IsFor gateways (hands.Gateway g) n (found.1).work) (sym (next_place base found.0)) found.3)
]

-- a gateway that has a sync is among the hands
sync_hand : (gateways g : ℕ) (hs : List Hand) (tasks : List Task) → AreEnough gateways hs tasks → has_sync (works_in tasks) g ≡ true → list_any (same_hand (hands.Gateway g)) hs ≡ true
sync_hand gateways g hs tasks enough h =
    let found = sync_task gateways g 0 tasks h in
    let at : 0 + found.0 ≡ found.0 = omega arith in
    tested hs (hands.Gateway g) (enough (hands.Gateway g) found.0 (record { task = found.1; is = found.2; whose = subst (λ n. IsFor gateways (hands.Gateway g) n (found.1).work) at found.3 }))

abbrev is_gateway : ℕ → Option ℕ → Bool
is_gateway g None = false
is_gateway g (Some other) = other == g

search_first : (g : ℕ) (w : Worker) (ws : List Worker) (o : Option ℕ) (b : Bool) → w.gateway ≡ o → is_gateway g o ≡ b → ((x : Worker) × Contains ws x × (x.gateway ≡ Some g)) ⊎ All (λ (x : Worker). x.gateway ≢ Some g) ws
    → ((x : Worker) × Contains (w ∷ ws) x × (x.gateway ≡ Some g)) ⊎ All (λ (x : Worker). x.gateway ≢ Some g) (w ∷ ws)
search_first g w ws o b is test (inl found) = inl (found.0, contains_later w found.0 ws found.1, found.2)
search_first g w ws None b is test (inr none) = inr (All-cons (λ (x : Worker). x.gateway ≢ Some g) w ws (λ same. cc (is, same)) none)
search_first g w ws (Some other) true is test (inr none) = let same : other ≡ g = grind (arith, nat_tests, test) in inl (w, contains_first w ws, is ∙ ap (λ n. Some n) same)
search_first g w ws (Some other) false is test (inr none) =
    inr (All-cons (λ (x : Worker). x.gateway ≢ Some g) w ws (λ same. let k : other ≡ g = cc (is, same) in absurd (grind (arith, nat_tests, test, k))) none)

-- a worker of the gateway, or none
search : (g : ℕ) (ws : List Worker) → ((x : Worker) × Contains ws x × (x.gateway ≡ Some g)) ⊎ All (λ (x : Worker). x.gateway ≢ Some g) ws
search g [] = inr (All-nil (λ (w : Worker). w.gateway ≢ Some g))
search g (w ∷ ws) = search_first g w ws w.gateway (is_gateway g w.gateway) refl refl (search g ws)

module _ (gateways : ℕ) (tasks : List Task) where
  -- the worker of a hand
  abbrev OfHand : Worker → Type 0
  OfHand worker = (hand : Hand) × (worker.gateway ≡ gateway_of hand) × (worker.tasks ≡ places_from gateways hand 0 tasks)

  of_hands : (before : ℕ) (hs : List Hand) → AllByRecursion OfHand (workers_from gateways before tasks hs)
  unfolding workers_from
  of_hands before [] = tt
  of_hands before (hand ∷ hs) = ((hand, refl, refl), of_hands (seats_after before 1) hs)

  worker_there : (before g : ℕ) (hs : List Hand) → All (λ (w : Worker). w.gateway ≢ Some g) (workers_from gateways before tasks hs) → list_any (same_hand (hands.Gateway g)) hs ≡ true → ⊥
  unfolding workers_from
  worker_there before g [] none found = absurd (cc (found))
  worker_there before g (hand ∷ hs) none found =
      let w = worker_of gateways (seats_after before 1) hand tasks in
      let ws = workers_from gateways (seats_after before 1) tasks hs in
      found_hand g hand (same_hand (hands.Gateway g) hand) (list_any (same_hand (hands.Gateway g)) hs) refl (All-head (λ (x : Worker). x.gateway ≢ Some g) w ws none)
      (worker_there (seats_after before 1) g hs (All-tail (λ (x : Worker). x.gateway ≢ Some g) w ws none)) found

  -- a gateway that has a sync has a worker
  sync_there : (before g : ℕ) → All (λ (w : Worker). w.gateway ≢ Some g) (workers_from gateways before tasks (hands_of gateways tasks)) → has_sync (works_in tasks) g ≡ true → ⊥
  sync_there before g none h = worker_there before g (hands_of gateways tasks) none (sync_hand gateways g (hands_of gateways tasks) tasks (is_staff gateways tasks).enough h)

with_hands : (Of : Worker → Type 0) (Own : Worker → List End → Type 0) (ws : List Worker) (es : List (List End)) → AllByRecursion Of ws → AllZip Own ws es → AllZip (λ w e. Of w × Own w e) ws es
with_hands Of Own [] [] of all = tt
with_hands Of Own [] (e ∷ es) of all = absurd all
with_hands Of Own (w ∷ ws) [] of all = absurd all
with_hands Of Own (w ∷ ws) (e ∷ es) of all = ((of.0, all.0), with_hands Of Own ws es of.1 all.1)

with_done : (Own : Worker → List End → Type 0) (ws : List Worker) (es : List (List End)) → AllZip Own ws es → AreDone ws es → AllZip (λ w e. Own w e × (length w.tasks ≡ length e)) ws es
with_done Own [] [] all done = tt
with_done Own [] (e ∷ es) all done = absurd all
with_done Own (w ∷ ws) [] all done = absurd all
with_done Own (w ∷ ws) (e ∷ es) all done =
    let one : length w.tasks ≡ length e = cc (done) in
    let more : AreDone ws es = cc (done) in
    ((all.0, one), with_done Own ws es all.1 more)

module _ (setting : Setting) (gateways : ℕ) (few : gateways ≤ length setting.script.gateways) (tasks : List Task) (workers : List Worker) (views : Holdings) (made : List Entry) (ends : List (List End)) (after : Holdings)
    (run : PhaseRun (by_script setting) tasks workers views made ends after) (of_hand : AllByRecursion (OfHand gateways tasks) workers) (seen : ℕ → Bool) (ordered : (g : ℕ) → AreSynced (length setting.script.gateways) g (seen g) (works_in tasks))
    (known : (g : ℕ) → seen g ≡ true → HasView (views g)) (gives : (own : List End) → Contains ends own → GiveViews own) where
  abbrev Own : Worker → List End → Type 0
  Own worker own = OfHand gateways tasks worker × WorkerRun (by_script setting) tasks views made after worker own

  owns : AllZip Own workers ends
  owns = with_hands (OfHand gateways tasks) (WorkerRun (by_script setting) tasks views made after) workers ends of_hand run.runs

  its_tasks : (hand : Hand) (worker : Worker) (own : List End) → worker.tasks ≡ places_from gateways hand 0 tasks → (w : WorkerRun (by_script setting) tasks views made after worker own) → w.own ≡ owned gateways hand 0 tasks
  its_tasks hand worker own places w =
      owned_are gateways hand tasks 0 tasks w.own (λ k. let same : k ≡ 0 + k = omega arith in ap (slice_get tasks) same) (subst (λ p. TasksAt tasks p w.own) places w.are)

  its_runs : (hand : Hand) (worker : Worker) (own : List End) → worker.gateway ≡ gateway_of hand → worker.tasks ≡ places_from gateways hand 0 tasks → (w : WorkerRun (by_script setting) tasks views made after worker own)
      → TasksRun (by_script setting) (record { seat = worker.seat; gateway = gateway_of hand }) made (holding_of views (gateway_of hand)) (owned gateways hand 0 tasks) (of_seat worker.seat made) own w.last
  its_runs hand worker own gateway places w =
      subst (λ ts. TasksRun (by_script setting) (record { seat = worker.seat; gateway = gateway_of hand }) made (holding_of views (gateway_of hand)) ts (of_seat worker.seat made) own w.last) (its_tasks hand worker own places w)
      (subst (λ g. TasksRun (by_script setting) (record { seat = worker.seat; gateway = g }) made (holding_of views g) w.own (of_seat worker.seat made) own w.last) gateway w.runs)

  gateway_asks : (g : ℕ) → AreAsked setting (seen g) (seen g || has_sync (works_in tasks) g) (owned gateways (hands.Gateway g) 0 tasks)
  gateway_asks g = are_asked setting g gateways (length setting.script.gateways) few (seen g) 0 tasks (ordered g)

  worker_none : (worker : Worker) (own : List End) → Own worker own → GiveViews own → Contains own without_view → ⊥
  worker_none worker own ((hands.Alone p, gateway, places), w) good =
      unasked setting (record { seat = worker.seat; gateway = None }) made (owned gateways (hands.Alone p) 0 tasks) nothing_held w.last (of_seat worker.seat made) own (none_asking setting gateways p 0 tasks) good (its_runs (hands.Alone p) worker own gateway places w)
  worker_none worker own ((hands.Gateway g, gateway, places), w) good =
      (gateway_asks g (record { seat = worker.seat; gateway = Some g }) made (views g) w.last (of_seat worker.seat made) own (known g) good (its_runs (hands.Gateway g) worker own gateway places w)).0

  worker_has : (g : ℕ) (worker : Worker) (own : List End) → Own worker own → worker.gateway ≡ Some g → length worker.tasks ≡ length own → GiveViews own → (seen g || has_sync (works_in tasks) g) ≡ true → HasView (after g)
  worker_has g worker own ((hands.Alone p, gateway, places), w) is long good h = absurd (cc (gateway, is))
  worker_has g worker own ((hands.Gateway own_g, gateway, places), w) is long good h =
      let same : own_g ≡ g = cc (gateway, is) in
      let at : worker.tasks ≡ places_from gateways (hands.Gateway g) 0 tasks = subst (λ n. worker.tasks ≡ places_from gateways (hands.Gateway n) 0 tasks) same places in
      let size : length own ≡ length (owned gateways (hands.Gateway g) 0 tasks) = sym long ∙ sym (tasks_long tasks worker.tasks w.own w.are) ∙ ap length (its_tasks (hands.Gateway g) worker own at w) in
      let last = (gateway_asks g (record { seat = worker.seat; gateway = Some g }) made (views g) w.last (of_seat worker.seat made) own (known g) good (its_runs (hands.Gateway g) worker own is at w)).1 size h in
      subst HasView (sym (w.leaves g is)) last

  -- nobody in the phase wants for a view
  phase_none : (own : List End) → Contains ends own → Contains own without_view → ⊥
  phase_none own among = let who = AllZip-first Own workers ends own owns among in worker_none who.0 own who.2 (gives own among)

  -- and where all its tasks are done, each sync that was seen before it or stands in it left a view
  phase_has : AreDone workers ends → (g : ℕ) → (All (λ (w : Worker). w.gateway ≢ Some g) workers → has_sync (works_in tasks) g ≡ true → ⊥) → (seen g || has_sync (works_in tasks) g) ≡ true → HasView (after g)
  phase_has done g there h = elim (search g workers) [
    | inl found ↦
        let own = AllZip-second (λ w e. Own w e × (length w.tasks ≡ length e)) workers ends found.0 (with_done Own workers ends owns done) found.1 in
        worker_has g found.0 own.0 (own.2).0 found.2 (own.2).1 (gives own.0 own.1) h
    | inr none ↦ elim (or_cases (seen g) (has_sync (works_in tasks) g) h) [
      | inl old ↦ subst HasView (sym (run.kept g none)) (known g old)
      | inr new ↦ absurd (there none new)
    ]
  ]

-- ---- all phases

module _ (setting : Setting) where
  abbrev gateways : ℕ
  gateways = gateway_count setting.script.gateways

  workers_are : (number : ℕ) (phase : Phase) → slice_get setting.script.phases number ≡ Some phase → workers_of setting.script number ≡ workers_from gateways (seats_before setting.script number) phase.tasks (hands_of gateways phase.tasks)
  workers_are number phase is = ap (workers_after setting.script (seats_before setting.script number)) is

  are_of_hands : (number : ℕ) (phase : Phase) → slice_get setting.script.phases number ≡ Some phase → AllByRecursion (OfHand gateways phase.tasks) (workers_of setting.script number)
  are_of_hands number phase is = subst (AllByRecursion (OfHand gateways phase.tasks)) (sym (workers_are number phase is)) (of_hands gateways phase.tasks (seats_before setting.script number) (hands_of gateways phase.tasks))

  has_worker : (number : ℕ) (phase : Phase) → slice_get setting.script.phases number ≡ Some phase → (g : ℕ) → All (λ (w : Worker). w.gateway ≢ Some g) (workers_of setting.script number) → has_sync (works_in phase.tasks) g ≡ true → ⊥
  has_worker number phase is g none = sync_there gateways phase.tasks (seats_before setting.script number) g (subst (All (λ (w : Worker). w.gateway ≢ Some g)) (workers_are number phase is) none)

  -- each sync that came to an end gave a view
  abbrev AllGive : List (List (List End)) → Type 0
  AllGive ends = (e : SyncEnd) → SomeCame ends (synced e) → (v : View) × (e ≡ fetched.View v)

  give_first : (first : List (List End)) (later : List (List (List End))) → AllGive (first ∷ later) → (own : List End) → Contains first own → GiveViews own
  give_first first later gives own among end came e is = gives e (first, own, contains_first first later, among, subst (Contains own) is came)

  give_later : (first : List (List End)) (later : List (List (List End))) → AllGive (first ∷ later) → AllGive later
  give_later first later gives e (told, own, one, two, three) = gives e (told, own, contains_later first told later one, two, three)

  none_came : (ends : List (List (List End))) → ends ≡ [] → SomeCame ends without_view → ⊥
  none_came [] none (told, own, (k, below, is), two, three) = omega (arith, below)
  none_came (first ∷ later) none came = absurd (cc (none))

  first_or_later : (first : List (List End)) (later : List (List (List End))) → ((own : List End) → Contains first own → Contains own without_view → ⊥) → (SomeCame later without_view → ⊥) → SomeCame (first ∷ later) without_view → ⊥
  first_or_later first later here more (told, own, (zero, below, is), two, three) = here own (subst (λ (l : List (List End)). Contains l own) (sym is) two) three
  first_or_later first later here more (told, own, (suc k, below, is), two, three) = more (told, own, (k, omega (arith, below), is), two, three)

  -- nobody wants for a view in phases of which none was begun
  later_none : (later : List (List (List End))) → (later ≢ [] → SomeCame later without_view → ⊥) → SomeCame later without_view → ⊥
  later_none [] more came = none_came [] refl came
  later_none (first ∷ later) more came = more (λ none. cc (none)) came

  phases_none : gateways ≤ length setting.script.gateways → (number : ℕ) (seen : ℕ → Bool) (views : Holdings) (phases : List Phase) (entries : List Entry) (ends : List (List (List End))) → ((k : ℕ) → slice_get phases k ≡ slice_get setting.script.phases (number + k))
      → ((g : ℕ) → AreSynced (length setting.script.gateways) g (seen g) (works_of phases)) → ((g : ℕ) → seen g ≡ true → HasView (views g)) → AllGive ends → AreInTurn (by_workers setting) number phases ends → PhasesRun (by_workers setting) number views phases entries ends → SomeCame ends without_view → ⊥
  phases_none few number seen views [] entries ends tails ordered known gives turns run = none_came ends run.1
  phases_none few number seen views (phase ∷ phases) entries ends tails ordered known gives turns (inl none) = none_came ends none.1
  phases_none few number seen views (phase ∷ phases) entries ends tails ordered known gives turns (inr (clock, made, others, first, later, after, parts, begins, run, are, go)) =
      let at : slice_get setting.script.phases number ≡ Some phase = let same : number + 0 ≡ number = omega arith in sym (tails 0 ∙ ap (slice_get setting.script.phases) same) in
      let own : AllGive (first ∷ later) = subst AllGive are gives in
      let halves : (g : ℕ) → AreSynced (length setting.script.gateways) g (seen g) (works_in phase.tasks) × AreSynced (length setting.script.gateways) g (seen g || has_sync (works_in phase.tasks) g) (works_of phases) =
      λ g. synced_parts (length setting.script.gateways) g (seen g) (works_in phase.tasks) (works_of phases) (ordered g) in
      let workers = workers_of setting.script number in
      let of_hand = are_of_hands number phase at in
      let here = phase_none setting gateways few phase.tasks workers views made first after run of_hand seen (λ g. (halves g).0) known (give_first first later own) in
      let turn : AreInTurn (by_workers setting) number (phase ∷ phases) (first ∷ later) = subst (AreInTurn (by_workers setting) number (phase ∷ phases)) are turns in
      λ came. first_or_later first later here
      (later_none later (λ more. phases_none few (number + 1) (λ g. seen g || has_sync (works_in phase.tasks) g) after phases others later (λ k. tails (suc k) ∙ ap (slice_get setting.script.phases) (next_place number k)) (λ g. (halves g).1)
      (λ g. phase_has setting gateways few phase.tasks workers views made first after run of_hand seen (λ n. (halves n).0) known (give_first first later own) (turn.0 more) g (has_worker number phase at g))
      (give_later first later own) turn.1 go))
      (subst (λ es. SomeCame es without_view) are came)

-- in a lawful script whose syncs give views no gateway is asked before it has one
pub views_are_there : (setting : Setting) (journal : List Entry) (ends : List (List (List End))) → IsLawfulScript setting.script → IsInTurn setting ends → IsRunOf setting journal ends
    → ((e : SyncEnd) → SomeCame ends (synced e) → (v : View) × (e ≡ fetched.View v)) → ¬ SomeCame ends without_view
views_are_there setting journal ends lawful turns run gives =
    phases_none setting (min-le_left (length setting.script.gateways) greatest) 0 (λ g. false) none_held setting.script.phases journal ends (λ k. let same : k ≡ 0 + k = omega arith in ap (slice_get setting.script.phases) same)
    (λ g. are_synced (length setting.script.gateways) g false (works_of setting.script.phases) (λ before after work at is below. lawful.phases.synced before after work g at is below))
    (λ g h. absurd (cc (h))) gives turns run.phases
