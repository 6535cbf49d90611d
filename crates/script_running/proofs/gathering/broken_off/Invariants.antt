use Rattle.std.proofs.Common.{take}
use Rattle.script_running.specs.Gathering.{HaveCome}
use Rattle.script_running.proofs.gathering.broken_off.Given as goal

-- what broke those so far off
abbrev pub invariant-loop-end : goal.invariant-loop-end
invariant-loop-end l = HaveCome (take l.end-index l.ends) l.came
