use Rattle.std.proofs.Common.{List, sym, subst}
use Rattle.std.proofs.lemmas.List.{drop_all}
use Rattle.index_parts.specs.declared.index_series.IndexSeries.{IndexSeries}
use Rattle.store_ranges.specs.Asking.{query_asked}
use Rattle.store_chunks.specs.RowsFit.{HaveRows}
use Rattle.store_chunks.proofs.RowSamples.{series_more}
use Rattle.store_chunks.proofs.row_shown.have_rows.Goals as goal

pub loop-one-init : goal.loop-one-init
loop-one-init c = λ have. have

pub loop-one-preserved : goal.loop-one-preserved
loop-one-preserved c = series_more (query_asked c.args.asked.now) c.args.series.now c.args.found.now c.loop-one.left.now c.in-Some.others.now c.loop-one.one-index _ _ c.loop-one-test.true c.one-item.is c.loop-one.invariant c.in-Some.ensures

pub returns : goal.returns
returns c = λ true_is. c.loop-one.invariant (subst (λ (l : List IndexSeries). HaveRows (query_asked c.args.asked.now) l c.loop-one.left.now) (sym (drop_all c.loop-one.one-index c.args.series.now c.loop-one-test.false)) tt)
