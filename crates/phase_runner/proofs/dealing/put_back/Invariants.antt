use Rattle.std.proofs.Common.{◌-◌, take, drop}
use Rattle.phase_runner.proofs.Rounds.{Returns}
use Rattle.phase_runner.proofs.dealing.put_back.Given as goal

abbrev pub invariant-loop-left : goal.invariant-loop-left
invariant-loop-left g l = record { returns : Returns (l.fn.takers - 1) (take l.fn.count l.fn.s) (drop l.fn.count l.fn.s) l.s l.at l.left }

abbrev pub decreases-loop-left : goal.decreases-loop-left
decreases-loop-left g l = l.left
