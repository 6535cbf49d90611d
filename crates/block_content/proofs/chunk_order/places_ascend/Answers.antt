use Rattle.std.proofs.Common.{refl, arith}
use Rattle.block_content.proofs.ChunkOrders.{ascend_in, ascend_step, ascend_stop, ascend_out, ascend_end}
use Rattle.block_content.proofs.chunk_order.places_ascend.Goals as goal

pub loop-place-init : goal.loop-place-init
loop-place-init c = ascend_in c.args.indexed.now c.loop-one.one-index c.one-item.result _ c.chunks-place-items.result.now c.loop-one.before c.loop-one.invariant c.loop-one-test.true c.one-item.is c.chunks-place-items.ensures

pub loop-place-preserved : goal.loop-place-preserved
loop-place-preserved c =
    ascend_step c.args.indexed.now c.loop-one.one-index c.chunks-place-items.result.now c.loop-place.before c.loop-place.place-index c.place_number-number.result _ _ c.comes_behind.result
    c.loop-place.invariant c.loop-place-test.true refl c.place_number-number.ensures.number c.comes_behind.ensures c.if-not-comes_behind.false

pub returns-then-not-comes_behind : goal.returns-then-not-comes_behind
returns-then-not-comes_behind c =
    ascend_stop c.args.indexed.now c.loop-one.one-index c.chunks-place-items.result.now c.loop-place.before c.loop-place.place-index c.place_number-number.result _ _ c.comes_behind.result
    c.loop-place.invariant c.loop-place-test.true refl c.place_number-number.ensures.number c.comes_behind.ensures c.if-not-comes_behind.true

pub loop-one-preserved : goal.loop-one-preserved
loop-one-preserved c = ascend_out c.args.indexed.now c.loop-one.one-index c.chunks-place-items.result.now c.loop-place.before c.loop-place.place-index c.loop-place.invariant (omega arith)

pub returns : goal.returns
returns c = ascend_end c.args.indexed.now c.loop-one.before c.loop-one.one-index c.loop-one.invariant (omega arith)
