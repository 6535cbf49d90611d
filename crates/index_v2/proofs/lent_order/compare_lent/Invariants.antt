use Rattle.index_v2.proofs.LentOrder.{SameSoFar}
use Rattle.index_v2.proofs.lent_order.compare_lent.Given as goal

abbrev pub invariant-loop-place : goal.invariant-loop-place
invariant-loop-place l = SameSoFar l.one l.other l.place
