use Rattle.std.proofs.Common.{◌≡◌, ◌++◌, drop}
use Rattle.script_workers.specs.Hands.{workers_from, hands_of}
use Rattle.script_workers.proofs.workers.phase_workers.Given as goal

-- the workers so far, with those that are left, are all
abbrev pub invariant-loop-hand : goal.invariant-loop-hand
invariant-loop-hand l =
    l.workers ++ workers_from l.gateways l.seat l.tasks (drop l.hand-index l.hand-items) ≡ workers_from l.gateways l.before l.tasks (hands_of l.gateways l.tasks)
