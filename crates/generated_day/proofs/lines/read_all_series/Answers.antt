use Rattle.std.proofs.Common.{arith}
use Rattle.std.proofs.lemmas.Result.{err_from_is_err_and}
use Rattle.generated_day.specs.Day.{series_line, all_series_text}
use Rattle.generated_day.proofs.Parts.{no_parts, part_wants, reads_more, reads_end}
use Rattle.generated_day.proofs.lines.read_all_series.Goals as goal

pub loop-series-init : goal.loop-series-init
loop-series-init c = no_parts (series_line c.args.number c.args.block c.args.replica) c.args.reader.now 0 100

pub loop-series-preserved : goal.loop-series-preserved
loop-series-preserved c =
    reads_more (series_line c.args.number c.args.block c.args.replica) _ _ _ c.loop-series.series 100 _ c.loop-series-test.true c.in_ok-read_series.ensures c.loop-series.invariant

pub returns-in_err-read_series : goal.returns-in_err-read_series
unfolding all_series_text
returns-in_err-read_series c =
    let p = err_from_is_err_and c.from_residual.result c.from_residual.ensures.1 in
    rw (p.1, p.2) (part_wants (series_line c.args.number c.args.block c.args.replica) _ _ _ c.loop-series.series 100 c.in_err-read_series.field-0.0 c.loop-series-test.true c.in_err-read_series.ensures c.loop-series.invariant)

pub returns : goal.returns
unfolding all_series_text
returns c = reads_end (series_line c.args.number c.args.block c.args.replica) _ _ _ c.loop-series.series 100 (omega arith) c.loop-series.invariant
