use Rattle.std.proofs.Common.{◌-◌}
use Rattle.index_parts.proofs.RowPlaces.{IsBetween}
use Rattle.index_parts.proofs.row_search.place_of.Given as goal

abbrev pub invariant-loop-low : goal.invariant-loop-low
invariant-loop-low l = IsBetween l.rows l.name l.value l.low l.high

abbrev pub decreases-loop-low : goal.decreases-loop-low
decreases-loop-low l = l.high - l.low
