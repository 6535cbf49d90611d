-- Of which tasks a report tells.
use Rattle.std.specs.Prelude.{◌≡◌, ◌≢◌, List, ◌++◌, Result, Err}
use Rattle.std.specs.List.{flat_map}
use Rattle.script_core.specs.declared.script.Script.{Script}
use Rattle.script_workers.specs.declared.phase.Phase.{Phase}
use Rattle.script_workers.specs.declared.task.Task.{Task}
use Rattle.script_running.specs.declared.came.Broken.{Broken}
use Rattle.script_running.specs.declared.came.Broken.TheVariants as broken
use Rattle.script_running.specs.Outcomes.{Outcome}

-- the tasks of phases, one after another
abbrev pub tasks_in : List Phase → List Task
tasks_in phases = flat_map (λ phase. phase.tasks) phases

-- Besides those of which it told before, the report tells of these tasks, which came out so.
abbrev pub AddsTo : {P : Type 0} → (P → Script → List Task → List Outcome → Type 0) → Script → List Task → List Outcome → P → P → Type 0
AddsTo tells script tasks own old new = (before : List Task) (outcomes : List Outcome) → tells old script before outcomes → tells new script (before ++ tasks) (outcomes ++ own)

-- the report tells how the tasks of some first phases came out, and of no others
abbrev pub TellsFirst : {P : Type 0} → (P → Script → List Task → List Outcome → Type 0) → Script → P → List Outcome → Type 0
TellsFirst tells script report outcomes =
    (done : List Phase) × (left : List Phase) × (script.phases ≡ done ++ left) × tells report script (tasks_in done) outcomes

-- Once a run came to this, its report tells just of the first phases that have these outcomes. Where memory was wanting, some report was
-- told of them.
abbrev pub HasToldFirst : {P : Type 0} → (P → Script → List Task → List Outcome → Type 0) → Script → P → List Outcome → Result (Unit {0}) Broken → Type 0
HasToldFirst {P} tells script report outcomes came = (told : P) × (came ≢ Err broken.NoMemory → told ≡ report) × TellsFirst tells script told outcomes
