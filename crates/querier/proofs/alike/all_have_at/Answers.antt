use Rattle.std.proofs.Common.{arith}
use Rattle.querier.proofs.AllAlike.{four_more}
use Rattle.querier.proofs.alike.all_have_at.Goals as goal

pub loop-start-preserved : goal.loop-start-preserved
loop-start-preserved c = four_more c.args.place c.args.answers.now c.args.series.now c.loop-start.start c.loop-start.invariant (c.four_have_at.ensures c.if-not-four_have_at.false)

pub returns : goal.returns
returns c e = λ k d below. c.loop-start.invariant k d (omega (arith, below, c.loop-start-test.false)) below
