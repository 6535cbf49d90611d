use Rattle.std.proofs.Common.{◌≡◌, List, length, map}
use Rattle.block_meta.specs.declared.meta.Meta.{Meta}
use Rattle.group_planner.specs.Members.{ulids_of}
use Rattle.group_planner.proofs.PartLaws.{PartsUpTo}
use Rattle.group_planner.proofs.parts.ulids_of_parts.Given as goal

abbrev pub invariant-loop-part : goal.invariant-loop-part
invariant-loop-part l = (done : List (List Meta)) × (l.made ≡ map ulids_of done) × PartsUpTo l.range l.fn.metas l.left done

abbrev pub decreases-loop-part : goal.decreases-loop-part
decreases-loop-part l = length l.left
