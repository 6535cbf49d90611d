use Rattle.std.proofs.Common.{arith}
use Rattle.label_sets.proofs.HexTexts.{number_at}
use Rattle.label_sets.proofs.sample.hex_number.Goals as goal

pub hex_digit-requires : goal.hex_digit-requires
hex_digit-requires c = (number_at _ _ _ c.requires.hex c.requires.count c.loop-sign-test.true c.loop-sign.invariant).0

pub overflow_mul-number : goal.overflow_mul-number
overflow_mul-number c =
    let step = number_at _ _ _ c.requires.hex c.requires.count c.loop-sign-test.true c.loop-sign.invariant in
    omega arith

pub overflow_add-number : goal.overflow_add-number
overflow_add-number c =
    let step = number_at _ _ _ c.requires.hex c.requires.count c.loop-sign-test.true c.loop-sign.invariant in
    rw (c.from.ensures, c.hex_digit.ensures) (omega arith)

pub loop-sign-preserved : goal.loop-sign-preserved
loop-sign-preserved c =
    let step = number_at _ _ _ c.requires.hex c.requires.count c.loop-sign-test.true c.loop-sign.invariant in
    rw (c.from.ensures, c.hex_digit.ensures) step.1
