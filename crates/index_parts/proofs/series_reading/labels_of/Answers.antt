use Rattle.std.proofs.Common.{rules}
use Rattle.index_parts.specs.SeriesReading.{labels_at}
use Rattle.index_parts.proofs.Loops.{labels_begin, labels_more, labels_end, labels_exit}
use Rattle.index_parts.proofs.series_reading.labels_of.Goals as goal

pub loop-init : goal.loop-init
loop-init c = search (rules, labels_begin)

pub loop-preserved : goal.loop-preserved
loop-preserved c = search (rules, labels_more)

pub returns : goal.returns
unfolding labels_at
returns c = labels_end _ _ _ _ _ _ c.loop.invariant c.loop-test.false c.loop.auto.counter-end

pub returns-in_err-label : goal.returns-in_err-label
unfolding labels_at
returns-in_err-label c = labels_exit _ _ _ _ _ _ _ _ _ _ c.loop.invariant c.from_residual.ensures.1 c.in_err-label.ensures c.loop-test.true
