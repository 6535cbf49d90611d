-- The hands of a phase stand in the order of their first tasks, and have their tasks.
use Rattle.std.proofs.Common.{◌≡◌, ℕ, zero, suc, ◌+◌, ◌<◌, Bool, true, false, cond, List, [], ◌∷◌, map, fold, refl, sym, ap, ◌∙◌, subst, arith, ◌⊎◌, inl, inr, Some}
use Rattle.std.specs.Prelude.{slice_get}
use Rattle.std.specs.List.{All, AllByRecursion, AllPairs, Contains, range_with_len}
use Rattle.std.specs.List.Sorted.{IsStrictlySortedBy}
use Rattle.std.specs.Ordering.{nat_cmp}
use Rattle.std.specs.declared.cmp.Ordering.TheVariants.{Less}
use Rattle.std.proofs.lemmas.Bool.{cond_both, false_from_ne_true}
use Rattle.std.proofs.lemmas.List.Elements.{All-nil, All-cons, All-head, All-tail, All-push, All-weaker, All-from_recursion, All-contains_itself, Contains-append_left}
use Rattle.std.proofs.lemmas.List.Quantifiers.{all_pairs_push}
use Rattle.base.proofs.Membership.{contains_first, contains_later}
use Rattle.base.proofs.Bools.{nat_cmp-Less}
use Rattle.script_workers.specs.declared.hand.Hand.{Hand}
use Rattle.script_workers.specs.declared.hand.Hand.TheVariants.{Alone, Gateway}
use Rattle.script_workers.specs.declared.task.Task.{Task}
use Rattle.script_workers.specs.declared.work.Work.{Work}
use Rattle.script_workers.specs.declared.work.Work.TheVariants as works
use Rattle.script_workers.specs.Hands.{hands_of_task, with_hand, with_hands, hands_from, hands_of, does, places_from}
use Rattle.script_workers.specs.Staff.{ArePlacesOf, IsGatewayBefore, BeginsBefore, IsStaff}
use Rattle.script_workers.specs.Whose.{IsTaskOf}
use Rattle.script_workers.proofs.HandLaws.{tested, contained, does_for, for_does, with_by, fold_keeps, fold_has, does_here, are_enough, is_needed, are_once}
use Rattle.script_workers.proofs.HandLists.{places_from-cons}

-- ---- the places of a hand's tasks

all_cond : (P : ℕ → Type 0) (x : ℕ) (xs : List ℕ) (b : Bool) → (b ≡ true → P x) → AllByRecursion P xs → AllByRecursion P (cond b (x ∷ xs) xs)
all_cond P x xs b here later = cond_both b (x ∷ xs) xs (AllByRecursion P) (λ is. (here is, later)) (λ _. later)

pub next_place : (base k : ℕ) → base + suc k ≡ base + 1 + k
next_place base k = omega arith

only_from : (gateways : ℕ) (hand : Hand) (whole : List Task) (base : ℕ) (tasks : List Task) → ((k : ℕ) → slice_get tasks k ≡ slice_get whole (base + k)) → AllByRecursion (IsTaskOf gateways whole hand) (places_from gateways hand base tasks)
unfolding places_from
only_from gateways hand whole base [] tails = tt
only_from gateways hand whole base (task ∷ tasks) tails =
    let here : base ≡ base + 0 = omega arith in
    all_cond (IsTaskOf gateways whole hand) base (places_from gateways hand (base + 1) tasks) (does gateways hand base task.work)
    (λ is. record { task = task; is = ap (slice_get whole) here ∙ sym (tails 0); whose = does_for gateways hand base task.work is })
    (only_from gateways hand whole (base + 1) tasks (λ k. tails (suc k) ∙ ap (slice_get whole) (next_place base k)))

each_from : (gateways : ℕ) (hand : Hand) (base : ℕ) (tasks : List Task) (k place : ℕ) (task : Task) → slice_get tasks k ≡ Some task → base + k ≡ place → does gateways hand place task.work ≡ true → Contains (places_from gateways hand base tasks) place
unfolding places_from
each_from gateways hand base [] k place task is at does_it = absurd cc
each_from gateways hand base (first ∷ tasks) zero place task is at does_it =
    let here : base ≡ place = omega (arith, at) in
    let later = places_from gateways hand (base + 1) tasks in
    let does_first = does_here gateways hand base place first task here is does_it in
    cond_both (does gateways hand base first.work) (base ∷ later) later (λ places. Contains places place) (λ _. (0, omega arith, here)) (λ no. let clash : true ≡ false = sym does_first ∙ no in absurd cc)
each_from gateways hand base (first ∷ tasks) (suc k) place task is at does_it =
    let later = places_from gateways hand (base + 1) tasks in
    let held = each_from gateways hand (base + 1) tasks k place task is (omega (arith, at)) does_it in
    cond_both (does gateways hand base first.work) (base ∷ later) later (λ places. Contains places place) (λ _. contains_later base place later held) (λ _. held)

above_from : (gateways : ℕ) (hand : Hand) (x base : ℕ) (tasks : List Task) → x < base → AllByRecursion (λ y. nat_cmp x y ≡ Less) (places_from gateways hand base tasks)
unfolding places_from
above_from gateways hand x base [] below = tt
above_from gateways hand x base (task ∷ tasks) below =
    all_cond (λ y. nat_cmp x y ≡ Less) base (places_from gateways hand (base + 1) tasks) (does gateways hand base task.work) (λ _. nat_cmp-Less x base below)
    (above_from gateways hand x (base + 1) tasks (omega (arith, below)))

ascend_from : (gateways : ℕ) (hand : Hand) (base : ℕ) (tasks : List Task) → IsStrictlySortedBy nat_cmp (places_from gateways hand base tasks)
unfolding places_from IsStrictlySortedBy
ascend_from gateways hand base [] = tt
ascend_from gateways hand base (task ∷ tasks) =
    let later = ascend_from gateways hand (base + 1) tasks in
    cond_both (does gateways hand base task.work) (base ∷ places_from gateways hand (base + 1) tasks) (places_from gateways hand (base + 1) tasks) (IsStrictlySortedBy nat_cmp)
    (λ _. (above_from gateways hand base (base + 1) tasks (omega arith), later)) (λ _. later)

pub are_places : (gateways : ℕ) (tasks : List Task) (hand : Hand) → ArePlacesOf gateways tasks hand (places_from gateways hand 0 tasks)
are_places gateways tasks hand = record {
  only = All-from_recursion (IsTaskOf gateways tasks hand) (places_from gateways hand 0 tasks) (only_from gateways hand tasks 0 tasks (λ k. let same : k ≡ 0 + k = omega arith in ap (slice_get tasks) same));
  each = λ place is. each_from gateways hand 0 tasks place place is.task is.is (omega arith) (for_does gateways hand place is.task.work is.whose);
  ascend = ascend_from gateways hand 0 tasks;
}

-- ---- the hands of one task

-- gateways in the order of their lines
abbrev AreInOrder : List Hand → Type 0
AreInOrder [] = Unit {0}
AreInOrder (hand ∷ hands) = All (IsGatewayBefore hand) hands × AreInOrder hands

above_gateways : (gateway first count : ℕ) → gateway < first → All (IsGatewayBefore (Gateway gateway)) (map Gateway (range_with_len first count))
above_gateways gateway first zero below = All-nil (IsGatewayBefore (Gateway gateway))
above_gateways gateway first (suc count) below =
    All-cons (IsGatewayBefore (Gateway gateway)) (Gateway first) (map Gateway (range_with_len (first + 1) count)) below (above_gateways gateway (first + 1) count (omega (arith, below)))

gateways_in_order : (first count : ℕ) → AreInOrder (map Gateway (range_with_len first count))
gateways_in_order first zero = tt
gateways_in_order first (suc count) = (above_gateways first (first + 1) count (omega arith), gateways_in_order (first + 1) count)

task_in_order : (gateways place : ℕ) (work : Work) → AreInOrder (hands_of_task gateways place work)
unfolding hands_of_task
task_in_order gateways place (works.Upload ulid stop) = (All-nil (IsGatewayBefore (Alone place)), tt)
task_in_order gateways place (works.Sync gateway) = (All-nil (IsGatewayBefore (Gateway gateway)), tt)
task_in_order gateways place (works.Compact stop) = (All-nil (IsGatewayBefore (Alone place)), tt)
task_in_order gateways place (works.Clean stop) = (All-nil (IsGatewayBefore (Alone place)), tt)
task_in_order gateways place (works.Query low high selector) = gateways_in_order 0 gateways

-- ---- the hands so far, where each has places of its own

module _ (own : Hand → List ℕ) where
  abbrev Begins : Hand → ℕ → Type 0
  Begins hand place = (more : List ℕ) × (own hand ≡ place ∷ more)

  abbrev Before : Hand → Hand → Type 0
  Before one other =
      (first second : ℕ) (more later : List ℕ) → own one ≡ first ∷ more → own other ≡ second ∷ later → (first < second) ⊎ ((first ≡ second) × IsGatewayBefore one other)

  -- a hand of those so far is of an earlier task, or a gateway before those to come
  abbrev IsAhead : ℕ → List Hand → Hand → Type 0
  IsAhead place more hand =
      (first : ℕ) × Begins hand first × ((first < place) ⊎ ((first ≡ place) × All (IsGatewayBefore hand) more))

  record Ready (place : ℕ) (current more : List Hand) : Type 0 where
    pub pairs : AllPairs Before current
    pub ahead : All (IsAhead place more) current
    pub in_order : AreInOrder more
    pub fresh : (hand : Hand) → Contains more hand → (Contains current hand → ⊥) → Begins hand place

  is_before : (place : ℕ) (new : Hand) (more : List Hand) → Begins new place → (hand : Hand) → IsAhead place (new ∷ more) hand → Before hand new
  is_before place new more begins hand ahead first second rest later is are =
      let one : ahead.0 ≡ first = cc (ahead.1.1, is) in
      let other : place ≡ second = cc (begins.1, are) in
      elim ahead.2 [
        | inl below ↦ inl (omega (arith, below, one, other))
        | inr here ↦ inr (sym one ∙ here.0 ∙ other, All-head (IsGatewayBefore hand) new more here.1)
      ]

  still_ahead : (place : ℕ) (new : Hand) (more : List Hand) (hand : Hand) → IsAhead place (new ∷ more) hand → IsAhead place more hand
  still_ahead place new more hand ahead = (
    ahead.0,
    ahead.1,
    elim ahead.2 [
      | inl below ↦ inl below
      | inr here ↦ inr (here.0, All-tail (IsGatewayBefore hand) new more here.1)
    ],
  )

  ready_with : (place : ℕ) (current : List Hand) (new : Hand) (more : List Hand) → Ready place current (new ∷ more) → Ready place (with_hand current new) more
  ready_with place current new more ready =
      let ahead = All-weaker (IsAhead place (new ∷ more)) (IsAhead place more) (still_ahead place new more) current ready.ahead in
      with_by (λ hands. Ready place hands more) current new
      (λ _. record {
        pairs = ready.pairs;
        ahead = ahead;
        in_order = ready.in_order.1;
        fresh = λ hand h missing. ready.fresh hand (contains_later new hand more h) missing;
      })
      (λ no.
      let begins : Begins new place = ready.fresh new (contains_first new more) (λ old. let clash : true ≡ false = sym (tested current new old) ∙ no in absurd cc) in
      record {
        pairs = all_pairs_push Before current new ready.pairs (All-weaker (IsAhead place (new ∷ more)) (λ hand. Before hand new) (is_before place new more begins) current ready.ahead);
        ahead = All-push (IsAhead place more) current new ahead (place, begins, inr (refl, ready.in_order.0));
        in_order = ready.in_order.1;
        fresh = λ hand h missing. ready.fresh hand (contains_later new hand more h) (λ old. missing (Contains-append_left current (new ∷ []) hand old));
      })

  ready_fold : (place : ℕ) (current more : List Hand) → Ready place current more → Ready place (fold with_hand current more) []
  ready_fold place current [] ready = ready
  ready_fold place current (new ∷ more) ready =
      ready_fold place (with_hand current new) more (ready_with place current new more ready)

  record SoFar (gateways : ℕ) (others : List Hand) (place : ℕ) (tasks : List Task) : Type 0 where
    pub old : All (λ hand. (first : ℕ) × Begins hand first × (first < place)) others
    pub new : (hand : Hand) → (Contains others hand → ⊥) → own hand ≡ places_from gateways hand place tasks
    pub pairs : AllPairs Before others

  module _ (gateways : ℕ) (others : List Hand) (place : ℕ) (task : Task) (tasks : List Task) (so_far : SoFar gateways others place (task ∷ tasks)) where
    abbrev its_hands : List Hand
    its_hands = hands_of_task gateways place task.work

    ready : Ready place others its_hands
    ready = record {
      pairs = so_far.pairs;
      ahead = All-weaker (λ hand. (first : ℕ) × Begins hand first × (first < place)) (IsAhead place its_hands) (λ hand old. (old.0, old.1, inl old.2)) others so_far.old;
      in_order = task_in_order gateways place task.work;
      fresh = λ hand h missing. (places_from gateways hand (place + 1) tasks, so_far.new hand missing ∙ places_from-cons gateways hand place task tasks true (tested its_hands hand h));
    }

    is_old : (hand : Hand) → IsAhead place [] hand → (first : ℕ) × Begins hand first × (first < place + 1)
    is_old hand ahead = (
      ahead.0,
      ahead.1,
      elim ahead.2 [
        | inl below ↦ omega (arith, below)
        | inr here ↦ let at = here.0 in omega (arith, at)
      ],
    )

    next : SoFar gateways (fold with_hand others its_hands) (place + 1) tasks
    next =
        let done = ready_fold place others its_hands ready in
        record {
          old = All-weaker (IsAhead place []) (λ hand. (first : ℕ) × Begins hand first × (first < place + 1)) is_old (fold with_hand others its_hands) done.ahead;
          new = λ hand missing.
              so_far.new hand (λ old. missing (fold_keeps others its_hands hand old))
              ∙ places_from-cons gateways hand place task tasks false (false_from_ne_true (does gateways hand place task.work) (λ yes. missing (fold_has others its_hands hand (contained its_hands hand yes))));
          pairs = done.pairs;
        }

  pairs_from : (gateways : ℕ) (others : List Hand) (place : ℕ) (tasks : List Task) → SoFar gateways others place tasks → AllPairs Before (hands_from gateways others place tasks)
  unfolding hands_from with_hands
  pairs_from gateways others place [] so_far = so_far.pairs
  pairs_from gateways others place (task ∷ tasks) so_far =
      pairs_from gateways (with_hands gateways others place task.work) (place + 1) tasks (next gateways others place task tasks so_far)

module _ (gateways : ℕ) (tasks : List Task) where
  abbrev hands : List Hand
  hands = hands_of gateways tasks

  abbrev own : Hand → List ℕ
  own hand = places_from gateways hand 0 tasks

  are_ordered : AllPairs (BeginsBefore gateways tasks) hands
  are_ordered =
      pairs_from own gateways [] 0 tasks
      (record { old = All-nil (λ hand. (first : ℕ) × Begins own hand first × (first < 0)); new = λ hand missing. refl; pairs = λ i j d below within. absurd (omega (arith, within)) })

  some_places : (hand : Hand) → Contains hands hand → own hand ≡ [] → ⊥
  some_places hand h none =
      let some = is_needed gateways tasks hand h in
      let held = subst (λ places. Contains places some.0) none ((are_places gateways tasks hand).each some.0 some.1) in
      absurd (omega (arith, held.1))

  pub is_staff : IsStaff gateways tasks hands
  is_staff = record {
    enough = are_enough gateways tasks;
    needed = All-weaker (Contains hands) (λ hand. own hand ≡ [] → ⊥) some_places hands (All-contains_itself hands);
    once = are_once gateways tasks;
    ordered = are_ordered;
    places = are_places gateways tasks;
  }
