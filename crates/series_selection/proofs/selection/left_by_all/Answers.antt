use Rattle.index_v2.proofs.WholeLoops.{gives_stop}
use Rattle.series_selection.proofs.AllLeft.{left_more, left_refused, left_end, left_stand}
use Rattle.series_selection.proofs.selection.left_by_all.Goals as goal

pub loop-matcher-preserved : goal.loop-matcher-preserved
loop-matcher-preserved c = left_more c.args.index.now c.args.external.now c.args.matchers.now c.args.numbers c.loop-matcher.matcher-index c.matcher-item.result c.loop-matcher.left c.loop-matcher.invariant c.loop-matcher-test.true c.matcher-item.is _ c.in_ok-left.ensures.gives c.in_ok-left.ensures.rises c.in_ok-left.ensures.stand

pub returns-in_err-left-clause-gives : goal.returns-in_err-left-clause-gives
returns-in_err-left-clause-gives c =
    gives_stop _ _ c.from_residual.result c.in_err-left.field-0.0 _ _ c.from_residual.ensures.1 c.in_err-left.ensures.gives
    (λ refused. left_refused c.args.index.now c.args.external.now c.args.matchers.now c.args.numbers c.loop-matcher.matcher-index c.matcher-item.result c.loop-matcher.left c.loop-matcher.invariant c.loop-matcher-test.true c.matcher-item.is _ refused)

pub returns-clause-gives : goal.returns-clause-gives
returns-clause-gives c = left_end c.args.index.now c.args.external.now c.args.matchers.now c.args.numbers c.loop-matcher.matcher-index c.loop-matcher.left c.loop-matcher.invariant c.loop-matcher-test.false

pub returns-clause-stand : goal.returns-clause-stand
returns-clause-stand c = left_stand c.args.index.now c.args.external.now c.args.matchers.now c.args.numbers c.loop-matcher.matcher-index c.loop-matcher.left c.loop-matcher.invariant c.loop-matcher-test.false
