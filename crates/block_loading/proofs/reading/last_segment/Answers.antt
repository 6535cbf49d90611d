use Rattle.std.proofs.Common.{subst, sym, ℕ, ◌≤◌, arith}
use Rattle.block_loading.proofs.Greatest.{last_start, last_more, last_end, last_most}
use Rattle.block_loading.proofs.reading.last_segment.Goals as goal

pub loop-one-init : goal.loop-one-init
loop-one-init c = last_start c.args.indexed.now

pub loop-one-preserved : goal.loop-one-preserved
loop-one-preserved c = last_more c.loop-one.last c.last_of-last.result c.args.indexed.now c.loop-one.one-index c.one-item.result _ c.chunks.result.now c.loop-one.invariant c.loop-one-test.true c.one-item.is c.chunks.ensures c.last_of-last.ensures

pub returns-clause-value : goal.returns-clause-value
returns-clause-value c = last_end c.loop-one.last c.args.indexed.now c.loop-one.one-index c.loop-one.invariant (omega arith)

pub returns-clause-most : goal.returns-clause-most
returns-clause-most c = subst (λ (n : ℕ). n ≤ 999_999) (sym (last_end c.loop-one.last c.args.indexed.now c.loop-one.one-index c.loop-one.invariant (omega arith))) (last_most c.args.indexed.now)
