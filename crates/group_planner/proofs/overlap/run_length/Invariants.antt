use Rattle.group_planner.proofs.OverlapLaws.{Counted}
use Rattle.group_planner.proofs.overlap.run_length.Given as goal

abbrev pub invariant-loop-place : goal.invariant-loop-place
invariant-loop-place l = Counted l.overlapping l.metas l.place l.fn.end l.end
