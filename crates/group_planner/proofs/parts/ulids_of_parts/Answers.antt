use Rattle.std.proofs.Common.{◌++◌, ◌∷◌, [], subst, to_z, of_z}
use Rattle.std.specs.Int.{w64}
use Rattle.std.proofs.lemmas.Int.{to_z-of_z}
use Rattle.group_planner.specs.Parts.{AreParts}
use Rattle.group_planner.proofs.PartLaws.{up_to_next, up_to_all, pushed_part}
use Rattle.group_planner.proofs.parts.ulids_of_parts.Goals as goal

pub loop-part-preserved : goal.loop-part-preserved
loop-part-preserved c = (
  c.loop-part.invariant.0 ++ c.in-Some.part.now ∷ [],
  pushed_part c.loop-part.made _ c.loop-part.invariant.0 c.in-Some.part.now _ c.loop-part.invariant.1 c.in_ok-ulids_of.ensures c.in_ok-push.ensures.ok,
  up_to_next (to_z w64 (of_z w64 c.args.range)) c.args.metas.now c.loop-part.left.now c.in-Some.part.now c.in-Some.behind.now c.loop-part.invariant.0 c.in-Some.ensures c.loop-part.invariant.2,
)

pub returns : goal.returns
returns c = (
  c.loop-part.invariant.0,
  subst (λ r. AreParts r c.args.metas.now c.loop-part.invariant.0) (to_z-of_z w64 c.args.range c.ranges.range)
      (up_to_all (to_z w64 (of_z w64 c.args.range)) c.args.metas.now c.loop-part.left.now c.loop-part.invariant.0 c.in_default.ensures c.loop-part.invariant.2),
  c.loop-part.invariant.1,
)
