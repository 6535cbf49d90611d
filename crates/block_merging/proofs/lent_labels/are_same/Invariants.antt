use Rattle.block_merging.proofs.SameLabels.{SameBehind}
use Rattle.block_merging.proofs.lent_labels.are_same.Given as goal

abbrev pub invariant-loop-left : goal.invariant-loop-left
invariant-loop-left l = SameBehind l.one l.other l.left

abbrev pub decreases-loop-left : goal.decreases-loop-left
decreases-loop-left l = l.left
