use Rattle.std.proofs.Common.{◌≡◌, ◌-◌, map, fold}
use Rattle.std.specs.List.{range_with_len}
use Rattle.script_workers.specs.declared.hand.Hand.TheVariants.{Gateway}
use Rattle.script_workers.specs.Hands.{with_hand}
use Rattle.script_workers.proofs.HandLists.{KeepsFront}
use Rattle.script_workers.proofs.hands.add_gateways.Given as goal

-- the hands so far, with the gateways that are left, are all
abbrev pub invariant-loop-gateway : goal.invariant-loop-gateway
invariant-loop-gateway l =
    (fold with_hand l.hands.items (map Gateway (range_with_len l.gateway (l.gateways - l.gateway))) ≡ fold with_hand l.fn.hands.items (map Gateway (range_with_len 0 l.gateways)))
    × KeepsFront l.fn.hands.items l.hands.items
