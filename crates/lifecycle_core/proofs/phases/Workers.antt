-- The workers of a phase by their hands, and that no two of them have one seat.
use Rattle.base.proofs.Membership.{contains_first, contains_later}
use Rattle.std.proofs.lemmas.Bool.{or_parts}
use Rattle.std.proofs.Common.{◌≡◌, ◌≢◌, ◌⊎◌, ℕ, ◌+◌, ◌<◌, ◌≤◌, Bool, true, false, ◌||◌, cond, List, [], ◌∷◌, length, map, refl, sym, ◌∙◌, ap, subst, inl, inr, arith}
use Rattle.std.specs.Prelude.{◌==◌}
use Rattle.std.specs.List.{AllByRecursion, AllZip, Contains, list_any}
use Rattle.script_workers.specs.Hands.{same_hand, gateway_of, places_from, seats_after, worker_of, workers_from, greatest}
use Rattle.script_workers.specs.declared.hand.Hand.{Hand}
use Rattle.script_workers.specs.declared.hand.Hand.TheVariants as hands
use Rattle.script_workers.specs.declared.task.Task.{Task}
use Rattle.script_workers.specs.declared.worker.Worker.{Worker}
use Rattle.script_workers.proofs.HandLaws.{hands_equal, swapped}
use Rattle.lifecycle_core.specs.InLine.{seat_of, serves}
use Rattle.lifecycle_core.proofs.phases.HandLists.{Apart}

module _ (gateways : ℕ) (tasks : List Task) where
  -- the hand of one task alone has the one place
  abbrev pub IsPlaced : Hand → Type 0
  IsPlaced hand = (own : ℕ) → hand ≡ hands.Alone own → places_from gateways hand 0 tasks ≡ own ∷ []

  or_false : (a : Bool) → (a || false) ≡ a
  or_false true = refl
  or_false false = refl

  serves_is : (hand x : Hand) → IsPlaced hand → serves x (gateway_of hand) (places_from gateways hand 0 tasks) ≡ same_hand hand x
  serves_is (hands.Alone a) (hands.Alone b) placed = rw (placed a refl) (or_false (a == b))
  serves_is (hands.Alone a) (hands.Gateway b) placed = refl
  serves_is (hands.Gateway a) (hands.Alone b) placed = refl
  serves_is (hands.Gateway a) (hands.Gateway b) placed = refl

  seat_first : (before : ℕ) (hand x : Hand) (hs : List Hand) (b : Bool) → IsPlaced hand → same_hand hand x ≡ b
      → seat_of (workers_from gateways before tasks (hand ∷ hs)) x ≡ cond b (seats_after before 1) (seat_of (workers_from gateways (seats_after before 1) tasks hs) x)
  unfolding seat_of workers_from
  seat_first before hand x hs b placed is =
      ap (λ t. cond t (seats_after before 1) (seat_of (workers_from gateways (seats_after before 1) tasks hs) x)) (serves_is hand x placed ∙ is)

  range_first : (before : ℕ) (hand : Hand) (hs : List Hand) (x : Hand) (b : Bool) → IsPlaced hand → same_hand hand x ≡ b → before + length (hand ∷ hs) ≤ greatest
      → (seat_of (workers_from gateways (seats_after before 1) tasks hs) x ≡ 0) ⊎ (seats_after before 1 < seat_of (workers_from gateways (seats_after before 1) tasks hs) x)
      → (seat_of (workers_from gateways before tasks (hand ∷ hs)) x ≡ 0) ⊎ (before < seat_of (workers_from gateways before tasks (hand ∷ hs)) x)
  range_first before hand hs x true placed is few later = inr (omega (arith, few, seat_first before hand x hs true placed is))
  range_first before hand hs x false placed is few (inl none) = inl (seat_first before hand x hs false placed is ∙ none)
  range_first before hand hs x false placed is few (inr above) = inr (omega (arith, few, above, seat_first before hand x hs false placed is))

  seat_range : (before : ℕ) (hs : List Hand) (x : Hand) → AllByRecursion IsPlaced hs → before + length hs ≤ greatest
      → (seat_of (workers_from gateways before tasks hs) x ≡ 0) ⊎ (before < seat_of (workers_from gateways before tasks hs) x)
  unfolding workers_from seat_of
  seat_range before [] x placed few = inl refl
  seat_range before (hand ∷ hs) x placed few =
      range_first before hand hs x (same_hand hand x) placed.0 refl few (seat_range (seats_after before 1) hs x placed.1 (omega (arith, few)))

  -- the worker of a hand, among workers after whom so many seats are taken
  pub record IsWorkerOf (before : ℕ) (workers : List Worker) (hand : Hand) (worker : Worker) : Type 0 where
    pub gateway : worker.gateway ≡ gateway_of hand
    pub places : worker.tasks ≡ places_from gateways hand 0 tasks
    pub above : before < worker.seat
    pub same : (x : Hand) → same_hand hand x ≡ true → seat_of workers x ≡ worker.seat
    pub other : (x : Hand) → same_hand hand x ≡ false → seat_of workers x ≢ worker.seat

  first_other : (before : ℕ) (hand x : Hand) (hs : List Hand) → AllByRecursion IsPlaced (hand ∷ hs) → same_hand hand x ≡ false → before + length (hand ∷ hs) ≤ greatest
      → (seat_of (workers_from gateways (seats_after before 1) tasks hs) x ≡ 0) ⊎ (seats_after before 1 < seat_of (workers_from gateways (seats_after before 1) tasks hs) x)
      → seat_of (workers_from gateways before tasks (hand ∷ hs)) x ≢ seats_after before 1
  first_other before hand x hs placed s few (inl none) = λ e. absurd (omega (arith, few, none, e, seat_first before hand x hs false placed.0 s))
  first_other before hand x hs placed s few (inr above) = λ e. absurd (omega (arith, few, above, e, seat_first before hand x hs false placed.0 s))

  first_worker : (before : ℕ) (hand : Hand) (hs : List Hand) → AllByRecursion IsPlaced (hand ∷ hs) → before + length (hand ∷ hs) ≤ greatest
      → IsWorkerOf before (workers_from gateways before tasks (hand ∷ hs)) hand (worker_of gateways (seats_after before 1) hand tasks)
  first_worker before hand hs placed few = record {
    gateway = refl;
    places = refl;
    above = omega (arith, few);
    same = λ x s. seat_first before hand x hs true placed.0 s;
    other = λ x s e. first_other before hand x hs placed s few (seat_range (seats_after before 1) hs x placed.1 (omega (arith, few))) e;
  }

  later_other : (before : ℕ) (hand x own : Hand) (hs : List Hand) (worker : Worker) (b : Bool) → IsPlaced hand → before + length (hand ∷ hs) ≤ greatest → same_hand hand x ≡ b
      → IsWorkerOf (seats_after before 1) (workers_from gateways (seats_after before 1) tasks hs) own worker → same_hand own x ≡ false
      → seat_of (workers_from gateways before tasks (hand ∷ hs)) x ≢ worker.seat
  later_other before hand x own hs worker true placed few is w s = λ e. absurd (omega (arith, few, w.above, e, seat_first before hand x hs true placed is))
  later_other before hand x own hs worker false placed few is w s = λ e. w.other x s (sym (seat_first before hand x hs false placed is) ∙ e)

  later_worker : (before : ℕ) (hand own : Hand) (hs : List Hand) (worker : Worker) → IsPlaced hand → before + length (hand ∷ hs) ≤ greatest → same_hand hand own ≡ false
      → IsWorkerOf (seats_after before 1) (workers_from gateways (seats_after before 1) tasks hs) own worker → IsWorkerOf before (workers_from gateways before tasks (hand ∷ hs)) own worker
  later_worker before hand own hs worker placed few differ is = record {
    gateway = is.gateway;
    places = is.places;
    above = omega (arith, few, is.above);
    same = λ x s. seat_first before hand x hs false placed (subst (λ (y : Hand). same_hand hand y ≡ false) (hands_equal own x s) differ) ∙ is.same x s;
    other = λ x s. later_other before hand x own hs worker (same_hand hand x) placed few refl is s;
  }

  all_later : (before : ℕ) (hand : Hand) (hs : List Hand) (own : List Hand) (workers : List Worker) → IsPlaced hand → before + length (hand ∷ hs) ≤ greatest → list_any (same_hand hand) own ≡ false
      → AllZip (IsWorkerOf (seats_after before 1) (workers_from gateways (seats_after before 1) tasks hs)) own workers
      → AllZip (IsWorkerOf before (workers_from gateways before tasks (hand ∷ hs))) own workers
  all_later before hand hs [] [] placed few none all = tt
  all_later before hand hs [] (w ∷ ws) placed few none all = absurd all
  all_later before hand hs (o ∷ os) [] placed few none all = absurd all
  all_later before hand hs (o ∷ os) (w ∷ ws) placed few none all =
      let parts = or_parts (same_hand hand o) (list_any (same_hand hand) os) none in
      (later_worker before hand o hs w placed few parts.0 all.0, all_later before hand hs os ws placed few parts.1 all.1)

  -- each hand has its worker
  pub each_worker : (before : ℕ) (hs : List Hand) → AllByRecursion IsPlaced hs → Apart hs → before + length hs ≤ greatest
      → AllZip (IsWorkerOf before (workers_from gateways before tasks hs)) hs (workers_from gateways before tasks hs)
  unfolding workers_from
  each_worker before [] placed apart few = tt
  each_worker before (hand ∷ hs) placed apart few = (
    first_worker before hand hs placed few,
    all_later before hand hs hs (workers_from gateways (seats_after before 1) tasks hs) placed.0 few apart.0
        (each_worker (seats_after before 1) hs placed.1 apart.1 (omega (arith, few))),
  )

  among_first : (before : ℕ) (hand : Hand) (hs : List Hand) (x : Hand) (b : Bool) → IsPlaced hand → same_hand hand x ≡ b → list_any (same_hand x) (hand ∷ hs) ≡ true
      → (list_any (same_hand x) hs ≡ true → Contains (map (λ (w : Worker). w.seat) (workers_from gateways (seats_after before 1) tasks hs)) (seat_of (workers_from gateways (seats_after before 1) tasks hs) x))
      → Contains (seats_after before 1 ∷ map (λ (w : Worker). w.seat) (workers_from gateways (seats_after before 1) tasks hs)) (seat_of (workers_from gateways before tasks (hand ∷ hs)) x)
  among_first before hand hs x true placed is found later =
      subst (Contains (seats_after before 1 ∷ map (λ (w : Worker). w.seat) (workers_from gateways (seats_after before 1) tasks hs))) (sym (seat_first before hand x hs true placed is))
      (contains_first (seats_after before 1) (map (λ (w : Worker). w.seat) (workers_from gateways (seats_after before 1) tasks hs)))
  among_first before hand hs x false placed is found later =
      let turned : same_hand x hand ≡ false = swapped x hand ∙ is in
      let rest : list_any (same_hand x) hs ≡ true = rw turned at found in
      subst (Contains (seats_after before 1 ∷ map (λ (w : Worker). w.seat) (workers_from gateways (seats_after before 1) tasks hs))) (sym (seat_first before hand x hs false placed is))
      (contains_later (seats_after before 1) (seat_of (workers_from gateways (seats_after before 1) tasks hs) x) (map (λ (w : Worker). w.seat) (workers_from gateways (seats_after before 1) tasks hs)) (later rest))

  -- a hand's seat is one of the workers'
  pub seat_among : (before : ℕ) (hs : List Hand) (x : Hand) → AllByRecursion IsPlaced hs → list_any (same_hand x) hs ≡ true
      → Contains (map (λ (w : Worker). w.seat) (workers_from gateways before tasks hs)) (seat_of (workers_from gateways before tasks hs) x)
  unfolding workers_from
  seat_among before [] x placed found = absurd (cc (found))
  seat_among before (hand ∷ hs) x placed found =
      among_first before hand hs x (same_hand hand x) placed.0 refl found (seat_among (seats_after before 1) hs x placed.1)
