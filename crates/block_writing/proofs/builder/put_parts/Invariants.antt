use Rattle.std.proofs.Common.{length}
use Rattle.block_writing.proofs.Parts.{SoFar}
use Rattle.block_writing.proofs.builder.put_parts.Given as goal

abbrev pub invariant-loop-left : goal.invariant-loop-left
invariant-loop-left l = SoFar l.fn.writer l.samples l.left l.writer

abbrev pub decreases-loop-left : goal.decreases-loop-left
decreases-loop-left l = length l.left
