use Rattle.std.proofs.Common.{arith}
use Rattle.block_content.proofs.ChunkWalks.{series_start, series_step, series_stopped, series_end, series_few, walk_stops}
use Rattle.block_content.proofs.content_reading.all_series.Goals as goal

pub loop-one-init : goal.loop-one-init
loop-one-init c = series_start c.args.segments.now c.args.indexed.now c.new-made.result c.new-made.ensures

pub returns-in_err-series_of-clause-read : goal.returns-in_err-series_of-clause-read
returns-in_err-series_of-clause-read c =
    walk_stops c.args.segments.now c.args.indexed.now _ c.from_residual.result c.in_err-series_of.field-0.0 c.from_residual.ensures.1
    (series_stopped c.args.segments.now c.args.indexed.now c.loop-one.one-index c.loop-one.number c.one-item.result _ c.loop-one.made c.in_err-series_of.field-0.0 c.loop-one.invariant c.loop-one-test.true c.one-item.is c.in_err-series_of.ensures.read)

pub loop-one-preserved : goal.loop-one-preserved
loop-one-preserved c =
    series_step c.args.segments.now c.args.indexed.now c.loop-one.one-index c.loop-one.number c.saturating_add-number.result c.one-item.result _ c.loop-one.made c.push.new.self c.in_ok-series_of.field-0 c.loop-one.invariant c.loop-one-test.true c.one-item.is
    c.in_ok-series_of.ensures.read c.in_ok-push.ensures.ok c.in_ok-series_of.ensures.few (omega (arith, c.saturating_add-number.ensures))

pub returns-clause-read : goal.returns-clause-read
returns-clause-read c = series_end c.args.segments.now c.args.indexed.now c.loop-one.one-index c.loop-one.number c.loop-one.made c.loop-one.invariant (omega arith)

pub returns-clause-few : goal.returns-clause-few
returns-clause-few c = series_few c.args.segments.now c.args.indexed.now c.loop-one.one-index c.loop-one.number c.loop-one.made c.loop-one.invariant (omega arith)
