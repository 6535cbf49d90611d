use Rattle.index_v2.proofs.RankedGaps.{kept_where}
use Rattle.index_v2.proofs.difference.is_kept.Goals as goal

pub returns-in-None : goal.returns-in-None
returns-in-None c = λ symbols told listed tells are. kept_where _ _ _ c.in-None.is (c.are_of_row.ensures symbols told listed tells are)
