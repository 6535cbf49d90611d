use Rattle.std.proofs.Common.{◌≡◌, drop}
use Rattle.script_workers.specs.Hands.{seats_from}
use Rattle.script_workers.proofs.workers.seats_of.Given as goal

-- the seats so far, with those of the phases that are left, are all
abbrev pub invariant-loop-phase : goal.invariant-loop-phase
invariant-loop-phase l =
    seats_from l.gateways l.seats (drop l.phase-index l.phases) ≡ seats_from l.gateways 0 l.phases
