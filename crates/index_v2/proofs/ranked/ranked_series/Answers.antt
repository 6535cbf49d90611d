use Rattle.std.proofs.Common.{◌*◌}
use Rattle.index_v2.proofs.RankedSeries.{ranks_given, ranks_refused}
use Rattle.index_v2.proofs.ranked.ranked_series.Goals as goal

pub returns-in-Ok-series_ranks-clause-ranked : goal.returns-in-Ok-series_ranks-clause-ranked
returns-in-Ok-series_ranks-clause-ranked c = ranks_given _ _ (16 * c.args.number) _ _ c.len-count.ensures.are c.in-Ok.ensures c.in-Ok-series_ranks.ensures

pub returns-in-Ok-clause-exact : goal.returns-in-Ok-clause-exact
returns-in-Ok-clause-exact c = ranks_refused _ _ (16 * c.args.number) c.args.number _ _ _ c.len-count.ensures.are c.in-Ok.ensures c.in-Err-series_ranks.ensures c.refused_of.ensures
