use Rattle.std.proofs.Common.{arith, sym, ◌∙◌}
use Rattle.std.proofs.lemmas.Bool.{eqb-false}
use Rattle.wire_bytes.proofs.Buffers.{by_byte}
use Rattle.wire_bytes.proofs.refill.refill_by_bytes.Goals as goal

pub loop-count-preserved : goal.loop-count-preserved
loop-count-preserved c =
    let bytes = c.loop-count.bytes.now in
    let done = by_byte _ _ _ _ c.loop-count.invariant.buffer c.loop-count-test.true c.from.ensures (omega arith) (eqb-false _ _ (sym c.is_empty.ensures ∙ c.if-is_empty.false)) in
    record { buffer = done.0; same = done.1 ∙ c.loop-count.invariant.same }
