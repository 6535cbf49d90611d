use Rattle.std.proofs.Common.{◌≡◌, [], drop}
use Rattle.script_workers.specs.Hands.{hands_from}
use Rattle.script_workers.proofs.hands.hands_of.Given as goal

-- the hands so far, with those of the tasks that are left, are all
abbrev pub invariant-loop-place : goal.invariant-loop-place
invariant-loop-place l =
    hands_from l.gateways l.hands.items l.place (drop l.place l.tasks) ≡ hands_from l.gateways [] 0 l.tasks
