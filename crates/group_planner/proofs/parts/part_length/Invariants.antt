use Rattle.std.proofs.Common.{[], take}
use Rattle.group_planner.specs.Runs.{EachPasses}
use Rattle.group_planner.specs.Parts.{fits_at}
use Rattle.group_planner.proofs.parts.part_length.Given as goal

abbrev pub invariant-loop-place : goal.invariant-loop-place
invariant-loop-place l = EachPasses (λ before meta. fits_at l.range l.start meta) [] (take l.place l.metas)
