use Rattle.std.proofs.Common.{arith}
use Rattle.call_verdicts.proofs.Pieces.{one_more_written}
use Rattle.call_verdicts.proofs.output.write_all.Goals as goal

pub loop-left-preserved : goal.loop-left-preserved
loop-left-preserved g c = record {
  written = rw c.members_behind-left.ensures (one_more_written _ _ _ _ _ c.in-Took.count c.loop-left.invariant.written c.in-Took.ensures.added);
  later = omega (arith, c.in-Took.ensures.faults.later);
}
