use Rattle.std.proofs.Common.{take}
use Rattle.group_planner.specs.Parts.{NoneFits}
use Rattle.group_planner.proofs.parts.next_part.Given as goal

abbrev pub invariant-loop-place : goal.invariant-loop-place
invariant-loop-place l = NoneFits l.range (take l.place l.metas)
