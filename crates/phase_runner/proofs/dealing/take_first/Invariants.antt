use Rattle.std.proofs.Common.{◌-◌, ◌*◌, ◌<◌}
use Rattle.phase_runner.proofs.Rounds.{Gathers}
use Rattle.phase_runner.proofs.dealing.take_first.Given as goal

abbrev pub invariant-loop-before : goal.invariant-loop-before
invariant-loop-before g l = record { gathers : Gathers (l.fn.takers - 1) l.fn.s l.s (l.before * l.fn.takers) l.count }

abbrev pub decreases-loop-before : goal.decreases-loop-before
decreases-loop-before g l = l.before
