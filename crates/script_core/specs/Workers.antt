-- The workers of a script's phases.
use Rattle.std.specs.Prelude.{ℕ, zero, suc, List, [], ◌++◌, length, take, Option, None, Some, slice_get}
use Rattle.script_workers.specs.declared.phase.Phase.{Phase}
use Rattle.script_workers.specs.declared.worker.Worker.{Worker}
use Rattle.script_workers.specs.Hands.{gateway_count, hands_of, seats_from, workers_from}
use Rattle.script_workers.specs.Staff.{IsStaff, AreSeated}
use Rattle.script_core.specs.declared.script.Script.{Script}

-- how many seats the phases before one take
abbrev pub seats_before : Script → ℕ → ℕ
seats_before script phase = seats_from (gateway_count script.gateways) 0 (take phase script.phases)

-- the workers of a phase, where so many seats are taken
abbrev pub workers_after : Script → ℕ → Option Phase → List Worker
workers_after script before None = []
workers_after script before (Some phase) =
    let gateways = gateway_count script.gateways in
    workers_from gateways before phase.tasks (hands_of gateways phase.tasks)

-- the workers of the phase at a place
abbrev pub workers_of : Script → ℕ → List Worker
workers_of script phase = workers_after script (seats_before script phase) (slice_get script.phases phase)

-- the workers of the phases before one
abbrev pub workers_before : Script → ℕ → List Worker
workers_before script zero = []
workers_before script (suc phase) = workers_before script phase ++ workers_of script phase

-- who does the tasks of a phase is its staff
abbrev pub HasStaff : Script → Phase → Type 0
HasStaff script phase =
    let gateways = gateway_count script.gateways in
    IsStaff gateways phase.tasks (hands_of gateways phase.tasks)

-- the workers of the phase at a place have the seats behind those of the phases before
abbrev pub HasSeats : Script → ℕ → Phase → Type 0
HasSeats script place phase =
    let gateways = gateway_count script.gateways in
    AreSeated gateways phase.tasks (hands_of gateways phase.tasks) (length (workers_before script place)) (workers_of script place)
