use Rattle.std.proofs.Common.{◌-◌, refl, get_or, arith}
use Rattle.block_merging.proofs.SameLabels.{same_behind, differ_behind, not_as_many}
use Rattle.block_merging.proofs.lent_labels.are_same.Goals as goal

pub returns-then-one-other : goal.returns-then-one-other
returns-then-one-other c = not_as_many c.args.one.now c.args.other.now (λ same. absurd (omega (arith, same, c.if-one-other.true)))

pub returns-then-not-is_same : goal.returns-then-not-is_same
returns-then-not-is_same c =
    differ_behind c.args.one.now c.args.other.now c.loop-left.left (c.loop-left.left - 1) (get_or c.args.one.now (c.loop-left.left - 1) _) (get_or c.args.other.now (c.loop-left.left - 1) _) _ _ c.is_same.result (omega (arith, c.loop-left-test.true)) refl refl c.loop-left.invariant c.is_same.ensures c.if-not-is_same.true

pub loop-left-preserved : goal.loop-left-preserved
loop-left-preserved c =
    same_behind c.args.one.now c.args.other.now c.loop-left.left (c.loop-left.left - 1) (get_or c.args.one.now (c.loop-left.left - 1) _) (get_or c.args.other.now (c.loop-left.left - 1) _) _ _ c.is_same.result (omega (arith, c.loop-left-test.true)) refl refl c.loop-left.invariant c.is_same.ensures c.if-not-is_same.false
