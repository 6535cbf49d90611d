use Rattle.std.proofs.Common.{arith}
use Rattle.base.proofs.DigitLoop.{value_at}
use Rattle.base.proofs.digits.value_of.Goals as goal

pub overflow_mul-number : goal.overflow_mul-number
overflow_mul-number c =
    let step = value_at _ _ _ c.requires.decimal c.requires.count c.loop-digit-test.true c.loop-digit.invariant in
    omega arith

pub overflow_add-number : goal.overflow_add-number
overflow_add-number c =
    let step = value_at _ _ _ c.requires.decimal c.requires.count c.loop-digit-test.true c.loop-digit.invariant in
    rw c.from.ensures (omega arith)

pub loop-digit-preserved : goal.loop-digit-preserved
loop-digit-preserved c =
    let step = value_at _ _ _ c.requires.decimal c.requires.count c.loop-digit-test.true c.loop-digit.invariant in
    rw c.from.ensures step.1
