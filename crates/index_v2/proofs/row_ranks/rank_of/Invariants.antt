use Rattle.std.proofs.Common.{◌-◌}
use Rattle.index_v2.proofs.RowRanks.{IsTextBetween}
use Rattle.index_v2.proofs.row_ranks.rank_of.Given as goal

abbrev pub invariant-loop-low : goal.invariant-loop-low
invariant-loop-low l = IsTextBetween l.symbols l.text l.low l.high

abbrev pub decreases-loop-low : goal.decreases-loop-low
decreases-loop-low l = l.high - l.low
