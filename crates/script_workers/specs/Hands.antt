-- Which workers the tasks of a phase need, and which tasks each of them does.
use Rattle.std.specs.Prelude.{ℕ, ◌+◌, ◌-◌, ◌^◌, min, List, [], ◌∷◌, ◌++◌, length, map, Bool, false, ◌==◌, Option, None, Some, if◌then◌else◌}
use Rattle.std.specs.List.{list_any, fold, range_with_len}
use Rattle.script_workers.specs.declared.hand.Hand.{Hand}
use Rattle.script_workers.specs.declared.hand.Hand.TheVariants as hands
use Rattle.script_workers.specs.declared.work.Work.{Work}
use Rattle.script_workers.specs.declared.work.Work.TheVariants as works
use Rattle.script_workers.specs.declared.task.Task.{Task}
use Rattle.script_workers.specs.declared.phase.Phase.{Phase}
use Rattle.script_workers.specs.declared.worker.Worker.{Worker}
use Rattle.script_workers.specs.Works.{asks_all}

-- the greatest number of 32 bits
abbrev pub greatest : ℕ
greatest = 2 ^ 32 - 1

-- how many gateways there are, as far as a place of 32 bits can name them
abbrev pub gateway_count : List (List ℕ) → ℕ
gateway_count gateways = min (length gateways) greatest

abbrev pub same_hand : Hand → Hand → Bool
same_hand (hands.Alone one) (hands.Alone other) = one == other
same_hand (hands.Alone one) (hands.Gateway other) = false
same_hand (hands.Gateway one) (hands.Alone other) = false
same_hand (hands.Gateway one) (hands.Gateway other) = one == other

-- Who does the task at a place that does not ask all gateways: a sync is its gateway's, and each other task has a worker of
-- its own.
abbrev pub own_hand : ℕ → Work → Hand
own_hand place (works.Sync gateway) = hands.Gateway gateway
own_hand place work = hands.Alone place

-- Who does the task at a place. What asks all gateways is every gateway's.
unfoldable pub hands_of_task : ℕ → ℕ → Work → List Hand
hands_of_task gateways place work =
    if asks_all work then map hands.Gateway (range_with_len 0 gateways) else own_hand place work ∷ []

-- a hand joins those before it, once
abbrev pub with_hand : List Hand → Hand → List Hand
with_hand others hand = if list_any (same_hand hand) others then others else others ++ hand ∷ []

-- the hands of a task join those of the tasks before it
unfoldable pub with_hands : ℕ → List Hand → ℕ → Work → List Hand
with_hands gateways others place work = fold with_hand others (hands_of_task gateways place work)

-- the same over the tasks of a phase from a place on
unfoldable pub hands_from : ℕ → List Hand → ℕ → List Task → List Hand
hands_from gateways others place [] = others
hands_from gateways others place (task ∷ tasks) =
    hands_from gateways (with_hands gateways others place task.work) (place + 1) tasks

-- who does the tasks of a phase, each once, in the order of their first tasks
abbrev pub hands_of : ℕ → List Task → List Hand
hands_of gateways tasks = hands_from gateways [] 0 tasks

-- whether the task at a place is one of those that a hand does
abbrev pub does : ℕ → Hand → ℕ → Work → Bool
does gateways hand place work = list_any (same_hand hand) (hands_of_task gateways place work)

-- the places of the tasks that a hand does, from a place on
unfoldable pub places_from : ℕ → Hand → ℕ → List Task → List ℕ
places_from gateways hand place [] = []
places_from gateways hand place (task ∷ tasks) =
    if does gateways hand place task.work
    then place ∷ places_from gateways hand (place + 1) tasks
    else places_from gateways hand (place + 1) tasks

abbrev pub gateway_of : Hand → Option ℕ
gateway_of (hands.Alone place) = None
gateway_of (hands.Gateway gateway) = Some gateway

-- so many seats after others; past the greatest number of 32 bits there is none
abbrev pub seats_after : ℕ → ℕ → ℕ
seats_after before count = min (before + count) greatest

-- the worker at a seat
abbrev pub worker_of : ℕ → ℕ → Hand → List Task → Worker
worker_of gateways seat hand tasks =
    record { seat = seat; gateway = gateway_of hand; tasks = places_from gateways hand 0 tasks }

-- the workers of a phase, where so many seats are taken
unfoldable pub workers_from : ℕ → ℕ → List Task → List Hand → List Worker
workers_from gateways before tasks [] = []
workers_from gateways before tasks (hand ∷ hands) =
    worker_of gateways (seats_after before 1) hand tasks ∷ workers_from gateways (seats_after before 1) tasks hands

-- how many seats some phases take
unfoldable pub seats_from : ℕ → ℕ → List Phase → ℕ
seats_from gateways before [] = before
seats_from gateways before (phase ∷ phases) =
    seats_from gateways (seats_after before (length (hands_of gateways phase.tasks))) phases
