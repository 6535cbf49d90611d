use Rattle.index_v2.specs.Ranks.{AreRanked}
use Rattle.index_v2.proofs.WholeLoops.{SeriesSoFar}
use Rattle.index_v2.proofs.whole.all_series.Given as goal

abbrev pub invariant-loop-number : goal.invariant-loop-number
invariant-loop-number l = SeriesSoFar l.index l.symbols l.numbers l.number-index l.last l.series.items × AreRanked l.symbols l.series.items l.ranks.items
