-- Runs in the order of the lines: each task is done to its end before the next one begins.
use Rattle.std.specs.Prelude.{◌≡◌, ◌⊎◌, ◌+◌, ◌==◌, ℕ, Bool, false, if◌then◌else◌, List, [], ◌∷◌, ◌++◌, length, map, All, Option, Some, None}
use Rattle.base.specs.Lists.{is_one_of}
use Rattle.world_core.specs.Worlds.{IsJournal}
use Rattle.world_core.specs.declared.entry.Entry.{Entry}
use Rattle.script_workers.specs.Hands.{gateway_count, gateway_of, hands_of_task}
use Rattle.script_core.specs.Workers.{workers_of}
use Rattle.script_workers.specs.declared.hand.Hand.{Hand}
use Rattle.script_workers.specs.declared.hand.Hand.TheVariants as hands
use Rattle.script_workers.specs.declared.phase.Phase.{Phase}
use Rattle.script_workers.specs.declared.task.Task.{Task}
use Rattle.script_workers.specs.declared.worker.Worker.{Worker}
use Rattle.lifecycle_core.specs.Conducts.{Who}
use Rattle.lifecycle_core.specs.Holdings.{Holding, Holdings, none_held, holding_of, with_holding}
use Rattle.lifecycle_core.specs.Setting.{Setting}
use Rattle.lifecycle_core.specs.Tasks.{End, TaskRun}
use Rattle.lifecycle_core.specs.Ways.{Way, AreInTurn, PhasesRun}

-- what one worker does for one task
pub record Duty : Type 0 where
  -- the place of the task in its phase
  pub place : ℕ
  pub hand : Hand
  pub task : Task

-- the duties of tasks from a place on, in the order of their lines; a query's are those of the gateways in their order
unfoldable pub duties_from : ℕ → ℕ → List Task → List Duty
duties_from gateways place [] = []
duties_from gateways place (task ∷ tasks) =
    map (λ hand. record { place = place; hand = hand; task = task })
    (hands_of_task gateways place task.work) ++ duties_from gateways (place + 1) tasks

-- whether the worker does what the hand is to do
abbrev pub serves : Hand → Option ℕ → List ℕ → Bool
serves (hands.Alone place) None tasks = is_one_of tasks place
serves (hands.Alone place) (Some gateway) tasks = false
serves (hands.Gateway place) None tasks = false
serves (hands.Gateway place) (Some gateway) tasks = gateway == place

-- the seat of the worker who does it; where none does, 0, which is nobody's, and each duty of a phase has its worker
unfoldable pub seat_of : List Worker → Hand → ℕ
seat_of [] hand = 0
seat_of (worker ∷ workers) hand =
    if serves hand worker.gateway worker.tasks then worker.seat else seat_of workers hand

-- who does it
abbrev pub who_does : (Hand → ℕ) → Hand → Who
who_does seat hand = record { seat = seat hand; gateway = gateway_of hand }

-- The entries are the runs of the duties, one after another. These have come to these ends; the first one that has not may
-- have broken off, and then nothing follows it.
abbrev pub InLine : Setting → (Hand → ℕ) → Holdings → List Duty → List Entry → List End → Holdings → Type 0
InLine setting seat before [] entries ends after = (entries ≡ []) × (ends ≡ []) × (after ≡ before)
InLine setting seat before (duty ∷ duties) entries ends after =
    ((made : List Entry) × (others : List Entry) × (end : End) × (later : List End) × (held : Holding)
    × (entries ≡ made ++ others) × All (λ e. e.seat ≡ seat duty.hand) made
    × TaskRun setting (who_does seat duty.hand) duty.place duty.task.work
    (holding_of before (gateway_of duty.hand)) made (Some end) held
    × (ends ≡ end ∷ later)
    × InLine setting seat (with_holding before (gateway_of duty.hand) held) duties others later after)
    ⊎ ((held : Holding) × All (λ e. e.seat ≡ seat duty.hand) entries
    × TaskRun setting (who_does seat duty.hand) duty.place duty.task.work
    (holding_of before (gateway_of duty.hand)) entries None held
    × (ends ≡ []) × (after ≡ with_holding before (gateway_of duty.hand) held))

-- the duties of a phase
abbrev pub duties_of : Setting → Phase → List Duty
duties_of setting phase = duties_from (gateway_count setting.script.gateways) 0 phase.tasks

-- The tasks of a phase are done in the order of their lines. The ends are listed by duty.
abbrev pub in_line : Setting → Way Holding (List End)
in_line setting = record {
  works = λ number phase before made ends after.
      InLine setting (seat_of (workers_of setting.script number)) before (duties_of setting phase) made ends after;
  is_done = λ number phase ends. length ends ≡ length (duties_of setting phase);
}

-- a journal of a run that does a script's tasks in the order of their lines, each phase to its end before the next one
pub record IsRunInLine (setting : Setting) (journal : List Entry)
    (ends : List (List End)) : Type 0 where
  pub kept : IsJournal setting.script.rules.tick.ms journal
  pub phases : PhasesRun (in_line setting) 0 none_held setting.script.phases journal ends
  pub turns : AreInTurn (in_line setting) 0 setting.script.phases ends

-- a journal of tasks that were done in the order of their lines
abbrev pub IsInLine : Setting → List Entry → Type 0
IsInLine setting journal = (ends : List (List End)) × IsRunInLine setting journal ends
