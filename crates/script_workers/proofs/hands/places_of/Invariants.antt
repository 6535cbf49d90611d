use Rattle.std.proofs.Common.{◌≡◌, ◌++◌, drop}
use Rattle.script_workers.specs.Hands.{places_from}
use Rattle.script_workers.proofs.hands.places_of.Given as goal

-- the places so far, with those that are left, are all
abbrev pub invariant-loop-place : goal.invariant-loop-place
invariant-loop-place l =
    l.places ++ places_from l.gateways l.hand l.place (drop l.place l.tasks) ≡ places_from l.gateways l.hand 0 l.tasks
