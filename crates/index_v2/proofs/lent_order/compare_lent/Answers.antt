use Rattle.std.proofs.Common.{arith, refl, sym, ◌∙◌}
use Rattle.index_v2.proofs.LentOrder.{same_none, same_more, differ_here, ends_first, is_front, are_equal}
use Rattle.index_v2.proofs.lent_order.compare_lent.Goals as goal

pub loop-place-init : goal.loop-place-init
loop-place-init c = same_none _ _

pub returns-then-place-other : goal.returns-then-place-other
returns-then-place-other c = ends_first _ _ _ c.loop-place-test.true c.if-place-other.true c.loop-place.invariant

pub returns-then-not-is_eq : goal.returns-then-not-is_eq
returns-then-not-is_eq c =
    differ_here _ _ _ _ _ _ _ _ c.loop-place-test.true (omega arith) refl refl c.loop-place.invariant
    c.compare_one-order.ensures (sym c.is_eq.ensures ∙ c.if-not-is_eq.true)

pub loop-place-preserved : goal.loop-place-preserved
loop-place-preserved c =
    same_more _ _ _ _ _ _ _ _ c.loop-place-test.true (omega arith) refl refl c.loop-place.invariant
    c.compare_one-order.ensures (sym c.is_eq.ensures ∙ c.if-not-is_eq.false)

pub returns-then-one-other : goal.returns-then-one-other
returns-then-one-other c = is_front _ _ _ c.loop-place-test.false c.if-one-other.true c.loop-place.invariant

pub returns-else-one-other : goal.returns-else-one-other
returns-else-one-other c = are_equal _ _ _ c.loop-place-test.false (omega arith) c.loop-place.invariant
