use Rattle.std.proofs.Common.{◌≡◌, Some, arith, get_or, refl}
use Rattle.std.specs.Option.{unwrap_or}
use Rattle.ulid_core.specs.UlidText.{digit_of}
use Rattle.ulid_core.proofs.NumberLoop.{number_of-nil, number_of-step, each_stands, value_is}
use Rattle.ulid_core.proofs.characters.number_of.Goals as goal

pub loop-byte-init : goal.loop-byte-init
loop-byte-init c = number_of-nil

pub digit_at-requires : goal.digit_at-requires
digit_at-requires c = each_stands _ _ c.requires.characters c.loop-byte-test.true

pub overflow_mul-number : goal.overflow_mul-number
overflow_mul-number c =
    let step = number_of-step c.args.bytes.now c.loop-byte.byte-index c.loop-byte.number (unwrap_or (digit_of (get_or c.args.bytes.now c.loop-byte.byte-index 0)) 0)
    c.requires.count c.requires.characters c.requires.first c.loop-byte-test.true c.loop-byte.invariant refl in
    omega (arith, step.1)

pub overflow_add-number : goal.overflow_add-number
overflow_add-number c =
    let stands : digit_of (get_or c.args.bytes.now c.loop-byte.byte-index 0) ≡ Some c.from.result = cc in
    let step = number_of-step c.args.bytes.now c.loop-byte.byte-index c.loop-byte.number c.from.result
    c.requires.count c.requires.characters c.requires.first c.loop-byte-test.true c.loop-byte.invariant (value_is _ _ stands) in
    omega (arith, step.1)

pub loop-byte-preserved : goal.loop-byte-preserved
loop-byte-preserved c =
    let stands : digit_of (get_or c.args.bytes.now c.loop-byte.byte-index 0) ≡ Some c.from.result = cc in
    let step = number_of-step c.args.bytes.now c.loop-byte.byte-index c.loop-byte.number c.from.result
    c.requires.count c.requires.characters c.requires.first c.loop-byte-test.true c.loop-byte.invariant (value_is _ _ stands) in
    step.0
