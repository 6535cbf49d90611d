use Rattle.std.proofs.Common.{arith}
use Rattle.std.proofs.lemmas.List.{same_lists}
use Rattle.querier.proofs.alike.have_all.Goals as goal

pub returns : goal.returns
returns c e = (
  same_lists c.args.samples.now c.args.one.now (omega (arith, c.if-one-count.false)) (λ k d below. (c.loop-place.invariant k d (omega (arith, below, c.loop-place-test.false))).0),
  same_lists c.args.samples.now c.args.two.now (omega (arith, c.if-two-count.false)) (λ k d below. (c.loop-place.invariant k d (omega (arith, below, c.loop-place-test.false))).1),
  same_lists c.args.samples.now c.args.three.now (omega (arith, c.if-three-count.false)) (λ k d below. (c.loop-place.invariant k d (omega (arith, below, c.loop-place-test.false))).2),
  same_lists c.args.samples.now c.args.four.now (omega (arith, c.if-four-count.false)) (λ k d below. (c.loop-place.invariant k d (omega (arith, below, c.loop-place-test.false))).3),
)
