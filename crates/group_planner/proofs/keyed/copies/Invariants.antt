use Rattle.std.proofs.Common.{◌≡◌, map, take}
use Rattle.group_planner.proofs.keyed.copies.Given as goal

abbrev pub invariant-loop-block : goal.invariant-loop-block
invariant-loop-block l = l.made.items ≡ map (λ block. block.meta) (take l.block-index l.found)
