-- Where the tasks of a hand stand in a phase.
use Rattle.std.proofs.Common.{◌≡◌, ◌≢◌, ℕ, zero, suc, ◌+◌, ◌<◌, Bool, true, false, ◌||◌, cond, List, [], ◌∷◌, ◌++◌, map, refl, sym, ◌∙◌, ap, subst, arith}
use Rattle.std.specs.Prelude.{Some, slice_get}
use Rattle.std.specs.List.{AllByRecursion, list_any, range_with_len}
use Rattle.std.proofs.lemmas.Bool.Decides.{nat_tests}
use Rattle.script_workers.specs.Hands.{same_hand, hands_of_task, does, places_from}
use Rattle.script_workers.specs.declared.hand.Hand.{Hand}
use Rattle.script_workers.specs.declared.hand.Hand.TheVariants as hands
use Rattle.script_workers.specs.declared.work.Work.{Work}
use Rattle.script_workers.specs.declared.work.Work.TheVariants as works
use Rattle.script_workers.specs.declared.task.Task.{Task}
use Rattle.script_workers.proofs.HandLists.{none_alone_among}
use Rattle.script_workers.proofs.HandLaws.{hands_equal}
use Rattle.lifecycle_core.specs.Conducts.{TasksAt}
use Rattle.lifecycle_core.specs.InLine.{Duty, duties_from}
use Rattle.lifecycle_core.proofs.phases.Duties.{part, tasks_of}
use Rattle.lifecycle_core.proofs.phases.HandLists.{Apart, task_apart}
use Rattle.lifecycle_core.proofs.phases.TaskRuns.{IsAlone}

abbrev pub places_in : List Duty → List ℕ
places_in duties = map (λ duty. duty.place) duties

abbrev duties_at : ℕ → Task → List Hand → List Duty
duties_at place task hs = map (λ hand. record { place = place; hand = hand; task = task }) hs

place_first : (hand x : Hand) (place : ℕ) (task : Task) (hs : List Hand) (ps : List ℕ) (rest : List Duty) (b : Bool) → same_hand hand x ≡ b → list_any (same_hand x) hs ≡ false
    → cond (list_any (same_hand hand) hs) (place ∷ ps) ps ≡ places_in (part hand (duties_at place task hs ++ rest))
    → cond (same_hand hand x || list_any (same_hand hand) hs) (place ∷ ps) ps ≡ places_in (part hand (record { place = place; hand = x; task = task } ∷ duties_at place task hs ++ rest))
unfolding part
place_first hand x place task hs ps rest true is none later =
    let others : list_any (same_hand hand) hs ≡ false = subst (λ (h : Hand). list_any (same_hand h) hs ≡ false) (sym (hands_equal hand x is)) none in
    let tail : ps ≡ places_in (part hand (duties_at place task hs ++ rest)) = ap (λ (c : Bool). cond c (place ∷ ps) ps) (sym others) ∙ later in
    rw is (ap (λ l. place ∷ l) tail)
place_first hand x place task hs ps rest false is none later = rw is later

-- where each hand of a task is there once, a hand that has the task has it once
place_more : (hand : Hand) (place : ℕ) (task : Task) (hs : List Hand) (ps : List ℕ) (rest : List Duty) → Apart hs → ps ≡ places_in (part hand rest)
    → cond (list_any (same_hand hand) hs) (place ∷ ps) ps ≡ places_in (part hand (duties_at place task hs ++ rest))
place_more hand place task [] ps rest apart same = same
place_more hand place task (x ∷ hs) ps rest apart same = place_first hand x place task hs ps rest (same_hand hand x) refl apart.0 (place_more hand place task hs ps rest apart.1 same)

-- the places of a hand's tasks are those of its duties
pub places_are : (gateways : ℕ) (hand : Hand) (place : ℕ) (tasks : List Task) → places_from gateways hand place tasks ≡ places_in (part hand (duties_from gateways place tasks))
unfolding places_from duties_from part
places_are gateways hand place [] = refl
places_are gateways hand place (task ∷ tasks) =
    place_more hand place task (hands_of_task gateways place task.work) (places_from gateways hand (place + 1) tasks) (duties_from gateways (place + 1) tasks)
    (task_apart gateways place task.work) (places_are gateways hand (place + 1) tasks)

-- The duty is of the task at its place, and the hand of one task alone is that place's and has such a task.
pub record IsDuty (whole : List Task) (duty : Duty) : Type 0 where
  pub at : slice_get whole duty.place ≡ Some duty.task
  pub alone : (place : ℕ) → duty.hand ≡ hands.Alone place → (place ≡ duty.place) × IsAlone duty.task.work

of_gateways : (whole : List Task) (place : ℕ) (task : Task) (gs : List ℕ) (rest : List Duty) → slice_get whole place ≡ Some task → AllByRecursion (IsDuty whole) rest
    → AllByRecursion (IsDuty whole) (duties_at place task (map hands.Gateway gs) ++ rest)
of_gateways whole place task [] rest is all = all
of_gateways whole place task (g ∷ gs) rest is all = (record { at = is; alone = λ p e. absurd (cc (e)) }, of_gateways whole place task gs rest is all)

of_alone : (whole : List Task) (place : ℕ) (task : Task) (w : Work) → task.work ≡ w → IsAlone w → slice_get whole place ≡ Some task → IsDuty whole (record { place = place; hand = hands.Alone place; task = task })
of_alone whole place task w same alone is = record { at = is; alone = λ p e. let q : p ≡ place = cc (e) in (q, subst IsAlone (sym same) alone) }

of_task : (whole : List Task) (gateways place : ℕ) (task : Task) (w : Work) (rest : List Duty) → task.work ≡ w → slice_get whole place ≡ Some task → AllByRecursion (IsDuty whole) rest
    → AllByRecursion (IsDuty whole) (duties_at place task (hands_of_task gateways place w) ++ rest)
unfolding hands_of_task
of_task whole gateways place task (works.Upload ulid stop) rest w is all = (of_alone whole place task (works.Upload ulid stop) w tt is, all)
of_task whole gateways place task (works.Sync gateway) rest w is all = (record { at = is; alone = λ p e. absurd (cc (e)) }, all)
of_task whole gateways place task (works.Compact stop) rest w is all = (of_alone whole place task (works.Compact stop) w tt is, all)
of_task whole gateways place task (works.Clean stop) rest w is all = (of_alone whole place task (works.Clean stop) w tt is, all)
of_task whole gateways place task (works.Query low high selector) rest w is all = of_gateways whole place task (range_with_len 0 gateways) rest is all

pub all_duties : (whole : List Task) (gateways place : ℕ) (tasks : List Task) → ((k : ℕ) → slice_get tasks k ≡ slice_get whole (place + k)) → AllByRecursion (IsDuty whole) (duties_from gateways place tasks)
unfolding duties_from
all_duties whole gateways place [] same = tt
all_duties whole gateways place (task ∷ tasks) same =
    let here : slice_get whole place ≡ Some task = ap (slice_get whole) (omega arith) ∙ sym (same 0) in
    let later : (k : ℕ) → slice_get tasks k ≡ slice_get whole (place + 1 + k) = λ k. same (suc k) ∙ ap (slice_get whole) (omega arith) in
    of_task whole gateways place task task.work (duties_from gateways (place + 1) tasks) refl here (all_duties whole gateways (place + 1) tasks later)

part_tasks : (hand : Hand) (whole : List Task) (duty : Duty) (duties : List Duty) (b : Bool) → same_hand hand duty.hand ≡ b → slice_get whole duty.place ≡ Some duty.task
    → TasksAt whole (places_in (part hand duties)) (tasks_of (part hand duties)) → TasksAt whole (places_in (part hand (duty ∷ duties))) (tasks_of (part hand (duty ∷ duties)))
unfolding part
part_tasks hand whole duty duties true e is later = rw e ((refl, is), later)
part_tasks hand whole duty duties false e is later = rw e later

-- the tasks of a hand stand at its places
pub tasks_at : (hand : Hand) (whole : List Task) (duties : List Duty) → AllByRecursion (IsDuty whole) duties → TasksAt whole (places_in (part hand duties)) (tasks_of (part hand duties))
unfolding part
tasks_at hand whole [] all = refl
tasks_at hand whole (duty ∷ duties) all = part_tasks hand whole duty duties (same_hand hand duty.hand) refl (all.0).at (tasks_at hand whole duties all.1)

-- ---- the place of a task alone

none_alone : (gateways own place : ℕ) (w : Work) → own ≢ place → does gateways (hands.Alone own) place w ≡ false
unfolding hands_of_task
none_alone gateways own place (works.Upload ulid stop) differ = grind (arith, nat_tests, differ)
none_alone gateways own place (works.Sync gateway) differ = refl
none_alone gateways own place (works.Compact stop) differ = grind (arith, nat_tests, differ)
none_alone gateways own place (works.Clean stop) differ = grind (arith, nat_tests, differ)
none_alone gateways own place (works.Query low high selector) differ = none_alone_among own (range_with_len 0 gateways)

one_alone : (gateways own : ℕ) (w : Work) → IsAlone w → does gateways (hands.Alone own) own w ≡ true
unfolding hands_of_task
one_alone gateways own (works.Upload ulid stop) alone = grind (arith, nat_tests)
one_alone gateways own (works.Sync gateway) alone = absurd alone
one_alone gateways own (works.Compact stop) alone = grind (arith, nat_tests)
one_alone gateways own (works.Clean stop) alone = grind (arith, nat_tests)
one_alone gateways own (works.Query low high selector) alone = absurd alone

none_after : (gateways own place : ℕ) (tasks : List Task) → own < place → places_from gateways (hands.Alone own) place tasks ≡ []
unfolding places_from
none_after gateways own place [] below = refl
none_after gateways own place (task ∷ tasks) below =
    let e = none_alone gateways own place task.work (λ q. absurd (omega (arith, below, q))) in rw e (none_after gateways own (place + 1) tasks (omega (arith, below)))

alone_first : (gateways own place : ℕ) (first : Task) (tasks : List Task) → own ≡ place → IsAlone first.work → places_from gateways (hands.Alone own) (place + 1) tasks ≡ []
    → places_from gateways (hands.Alone own) place (first ∷ tasks) ≡ own ∷ []
unfolding places_from
alone_first gateways own place first tasks is alone none =
    let d : does gateways (hands.Alone own) place first.work ≡ true =
    ap (λ p. does gateways (hands.Alone own) p first.work) (sym is) ∙ one_alone gateways own first.work alone in
    rw d (ap (λ l. place ∷ l) none ∙ ap (λ n. n ∷ []) (sym is))

alone_own : (gateways own place k : ℕ) (tasks : List Task) (task : Task) → own ≡ place + k → slice_get tasks k ≡ Some task → IsAlone task.work
    → places_from gateways (hands.Alone own) place tasks ≡ own ∷ []
unfolding places_from
alone_own gateways own place k [] task at is alone = absurd (cc (is))
alone_own gateways own place zero (first ∷ tasks) task at is alone =
    let same : first ≡ task = cc (is) in
    alone_first gateways own place first tasks (omega (arith, at)) (subst (λ (t : Task). IsAlone t.work) (sym same) alone) (none_after gateways own (place + 1) tasks (omega (arith, at)))
alone_own gateways own place (suc k) (first ∷ tasks) task at is alone =
    let d = none_alone gateways own place first.work (λ q. absurd (omega (arith, at, q))) in
    rw d (alone_own gateways own (place + 1) k tasks task (omega (arith, at)) is alone)

-- the hand of one task alone has the one place of that task
pub alone_place : (gateways place k : ℕ) (tasks : List Task) (task : Task) → slice_get tasks k ≡ Some task → IsAlone task.work
    → places_from gateways (hands.Alone (place + k)) place tasks ≡ (place + k) ∷ []
alone_place gateways place k tasks task is alone = alone_own gateways (place + k) place k tasks task refl is alone
