-- By which lines of a script an entry of a run's journal may have been made.
use Rattle.std.specs.Prelude.{ℕ, ◌-◌, ◌==◌, not, Bool, true, false, List, [], ◌∷◌, take, flat_map, count_by, Option, None, Some, slice_get, if◌then◌else◌}
use Rattle.block_keys.specs.declared.key.Key.TheVariants as keys
use Rattle.world_core.specs.declared.entry.Entry.{Entry}
use Rattle.world_core.specs.declared.op.Op.{Op}
use Rattle.world_core.specs.declared.op.Op.TheVariants as ops
use Rattle.script_core.specs.Workers.{workers_of}
use Rattle.script_core.specs.declared.script.Script.{Script}
use Rattle.script_workers.specs.declared.phase.Phase.{Phase}
use Rattle.script_workers.specs.declared.task.Task.{Task}
use Rattle.script_workers.specs.declared.work.Work.{Work}
use Rattle.script_workers.specs.declared.work.Work.TheVariants as works
use Rattle.script_workers.specs.declared.worker.Worker.{Worker}

abbrev pub is_clock : Op → Bool
is_clock (ops.Clock moment) = true
is_clock _ = false

-- the place of the phase of an entry with this number: each phase begins where the clock is set
abbrev pub phase_place : List Entry → ℕ → ℕ
phase_place journal number = count_by (λ e. is_clock e.op) (take number journal) - 1

-- the tasks of the phase at a place
abbrev pub phase_tasks : Option Phase → List Task
phase_tasks None = []
phase_tasks (Some phase) = phase.tasks

-- the worker of a seat
unfoldable pub worker_at : ℕ → List Worker → Option Worker
worker_at seat [] = None
worker_at seat (worker ∷ workers) = if worker.seat == seat then Some worker else worker_at seat workers

-- a sync lists blocks and gets their marks and metas
abbrev pub is_of_sync : Op → Bool
is_of_sync (ops.RootPage after limit) = true
is_of_sync (ops.Get (keys.Mark ulid)) = true
is_of_sync (ops.Get (keys.Meta ulid)) = true
is_of_sync _ = false

-- Whether it may be an operation of such a task. Of a gateway's tasks the syncs do other operations than the queries.
abbrev pub may_be_of : Work → Op → Bool
may_be_of (works.Sync gateway) op = is_of_sync op
may_be_of (works.Query low high selector) op = not (is_of_sync op)
may_be_of _ op = true

abbrev pub line_if : Op → Option Task → List ℕ
line_if op None = []
line_if op (Some task) = if may_be_of task.work op then task.line ∷ [] else []

-- the lines of a worker's tasks of which the operation may be one
abbrev pub worker_lines : List Task → Op → Option Worker → List ℕ
worker_lines tasks op None = []
worker_lines tasks op (Some worker) = flat_map (λ place. line_if op (slice_get tasks place)) worker.tasks

-- the lines of the tasks of which the entry may be one, by whose seat it has
abbrev pub entry_lines : Script → List Entry → Entry → List ℕ
entry_lines script journal entry =
    let place = phase_place journal entry.seq in
    worker_lines (phase_tasks (slice_get script.phases place)) entry.op (worker_at entry.seat (workers_of script place))
