use Rattle.index_parts.specs.Parts.{part_of}
use Rattle.index_v2.proofs.ListsFew.{SizesSoFar}
use Rattle.index_v2.proofs.sizes.have_at_most.Given as goal

abbrev pub invariant-loop-place : goal.invariant-loop-place
invariant-loop-place l = SizesSoFar (part_of l.part) l.rows l.most l.place l.left
