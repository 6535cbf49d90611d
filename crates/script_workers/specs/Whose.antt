-- Who works on a task, apart from how that is found.
use Rattle.std.specs.Prelude.{◌≡◌, ◌≢◌, ℕ, ◌<◌, ◌≤◌, IsFalse, IsTrue, List, length, Contains, Option, Some, slice_get}
use Rattle.script_workers.specs.Limits.{most_workers}
use Rattle.script_workers.specs.Works.{asks_all}
use Rattle.script_workers.specs.declared.hand.Hand.{Hand}
use Rattle.script_workers.specs.declared.hand.Hand.TheVariants.{Alone, Gateway}
use Rattle.script_workers.specs.declared.task.Task.{Task}
use Rattle.script_workers.specs.declared.work.Work.{Work}
use Rattle.script_workers.specs.declared.work.Work.TheVariants as works

-- Whose a task at a place is, where there are so many gateways: what asks all gateways is every gateway's, a sync is its gateway's, and
-- any other task has a worker of its own.
pub data IsFor (gateways : ℕ) (hand : Hand) (place : ℕ) (work : Work) : Type 0 where
  does_alone : IsFalse (asks_all work) → ((gateway : ℕ) → work ≢ works.Sync gateway) → hand ≡ Alone place → IsFor gateways hand place work
  syncs : (gateway : ℕ) → work ≡ works.Sync gateway → hand ≡ Gateway gateway → IsFor gateways hand place work
  asks : (gateway : ℕ) → IsTrue (asks_all work) → hand ≡ Gateway gateway → gateway < gateways → IsFor gateways hand place work

-- The task at a place is one that a hand does.
pub record IsTaskOf (gateways : ℕ) (tasks : List Task) (hand : Hand) (place : ℕ) : Type 0 where
  pub task : Task
  pub is : slice_get tasks place ≡ Some task
  pub whose : IsFor gateways hand place task.work

-- These hands are enough for the tasks: whoever does one of them is among the hands.
abbrev pub AreEnough : ℕ → List Hand → List Task → Type 0
AreEnough gateways hands tasks = (hand : Hand) (place : ℕ) → IsTaskOf gateways tasks hand place → Contains hands hand

-- Few hands are enough.
pub record FewWorkers (gateways : ℕ) (tasks : List Task) : Type 0 where
  pub hands : List Hand
  pub enough : AreEnough gateways hands tasks
  pub few : length hands ≤ most_workers
