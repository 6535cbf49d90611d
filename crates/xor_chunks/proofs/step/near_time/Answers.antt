use Rattle.std.proofs.Common.{arith}
use Rattle.std.proofs.lemmas.Int.{ints}
use Rattle.xor_chunks.proofs.Times.{ok_iff, near_is}
use Rattle.xor_chunks.proofs.step.near_time.Goals as goal

pub returns-clause-after : goal.returns-clause-after
returns-clause-after c =
    let a = ok_iff _ _ _ _ c.try_from.ensures c.in-Ok.is in
    let p = c.is_near.ensures c.if-not-is_near.false in
    let r = c.is_near-else-not-is_near.ensures c.if-not-is_near-2.false in
    near_is _ _ _ _ c.ranges.time c.ranges.change a c.if-delta-ge-FAR_STEP.false p r (grind (arith, ints))
