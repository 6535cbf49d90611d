use Rattle.std.proofs.Common.{arith}
use Rattle.std.proofs.lemmas.List.{same_lists}
use Rattle.querier.proofs.repeats.have_same.Goals as goal

pub returns : goal.returns
returns c e = same_lists c.args.samples.now c.args.others.now (omega (arith, c.if-samples-others.false)) (λ k d below. c.loop-place.invariant k d (omega (arith, below, c.loop-place-test.false)))
