-- Who works in a phase and at which seat, apart from how it is counted.
use Rattle.std.specs.Prelude.{◌≡◌, ◌≢◌, ◌⊎◌, ℕ, ◌+◌, ◌<◌, List, [], ◌∷◌, length, All, Contains, slice_get, Some}
use Rattle.std.specs.List.{AllPairs, IsDistinct}
use Rattle.std.specs.List.Sorted.{IsStrictlySortedBy}
use Rattle.std.specs.Ordering.{nat_cmp}
use Rattle.script_workers.specs.declared.hand.Hand.{Hand}
use Rattle.script_workers.specs.declared.hand.Hand.TheVariants.{Alone, Gateway}
use Rattle.script_workers.specs.declared.task.Task.{Task}
use Rattle.script_workers.specs.declared.worker.Worker.{Worker}
use Rattle.script_workers.specs.Hands.{same_hand, places_from, gateway_of}
use Rattle.script_workers.specs.Whose.{IsTaskOf, AreEnough}

-- These are the places of a hand's tasks: of no other tasks, of all of its own, in order and none twice.
pub record ArePlacesOf (gateways : ℕ) (tasks : List Task) (hand : Hand) (places : List ℕ) : Type 0 where
  pub only : All (IsTaskOf gateways tasks hand) places
  pub each : (place : ℕ) → IsTaskOf gateways tasks hand place → Contains places place
  pub ascend : IsStrictlySortedBy nat_cmp places

-- both are gateways, and the line of the first is before that of the second
abbrev pub IsGatewayBefore : Hand → Hand → Type 0
IsGatewayBefore (Alone one) other = ⊥
IsGatewayBefore (Gateway one) (Alone other) = ⊥
IsGatewayBefore (Gateway one) (Gateway other) = one < other

-- One hand's first task is before another's. Gateways that begin with one query follow the order of their lines.
abbrev pub BeginsBefore : ℕ → List Task → Hand → Hand → Type 0
BeginsBefore gateways tasks one other =
    (first second : ℕ) (more later : List ℕ) → places_from gateways one 0 tasks ≡ first ∷ more
    → places_from gateways other 0 tasks ≡ second ∷ later
    → (first < second) ⊎ ((first ≡ second) × IsGatewayBefore one other)

-- Whoever does a task of the phase is among the hands, each of them does one, and nobody is there twice. They stand in
-- the order of their first tasks, and what counts as a hand's tasks are its tasks.
pub record IsStaff (gateways : ℕ) (tasks : List Task) (hands : List Hand) : Type 0 where
  pub enough : AreEnough gateways hands tasks
  pub needed : All (λ hand. places_from gateways hand 0 tasks ≢ []) hands
  pub once : IsDistinct same_hand hands
  pub ordered : AllPairs (BeginsBefore gateways tasks) hands
  pub places : (hand : Hand) → ArePlacesOf gateways tasks hand (places_from gateways hand 0 tasks)

-- the worker of a hand, at a seat
pub record IsWorkerOf (gateways : ℕ) (tasks : List Task) (hand : Hand) (number : ℕ) (worker : Worker) : Type 0 where
  pub seat : worker.seat ≡ number
  pub gateway : worker.gateway ≡ gateway_of hand
  pub places : ArePlacesOf gateways tasks hand worker.tasks

-- Each hand has one worker, in the order of the hands, and their seats are the next after those that are taken.
pub record AreSeated (gateways : ℕ) (tasks : List Task) (hands : List Hand) (taken : ℕ) (workers : List Worker) : Type 0 where
  pub count : length workers ≡ length hands
  pub each : (place : ℕ) (hand : Hand) (worker : Worker) → slice_get hands place ≡ Some hand
      → slice_get workers place ≡ Some worker → IsWorkerOf gateways tasks hand (taken + place + 1) worker
