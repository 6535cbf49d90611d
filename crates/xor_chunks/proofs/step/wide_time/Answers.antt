use Rattle.std.proofs.Common.{arith}
use Rattle.std.proofs.lemmas.Int.{ints}
use Rattle.xor_chunks.proofs.Times.{sum_is, refused_out, taken_in, refused_falling, is_after_cast}
use Rattle.xor_chunks.proofs.step.wide_time.Goals as goal

pub returns-in_default : goal.returns-in_default
returns-in_default c =
    refused_out _ _ _ _ c.try_from.ensures c.in_default.not-Ok (sum_is _ _ _ c.from.ensures c.ranges.time c.ranges.delta c.requires.low c.requires.high)

pub returns-then-delta-lt1 : goal.returns-then-delta-lt1
returns-then-delta-lt1 c =
    let sum = sum_is _ _ _ c.from.ensures c.ranges.time c.ranges.delta c.requires.low c.requires.high in
    refused_falling _ _ (taken_in _ c.args.time c.args.delta _ _ c.try_from.ensures c.in-Ok.is sum).0 (grind (arith, ints))

pub returns : goal.returns
returns c =
    let sum = sum_is _ _ _ c.from.ensures c.ranges.time c.ranges.delta c.requires.low c.requires.high in
    let taken = taken_in _ c.args.time c.args.delta _ _ c.try_from.ensures c.in-Ok.is sum in
    is_after_cast _ _ _ taken c.ranges.delta (grind (arith, ints))
