use Rattle.std.proofs.Common.{arith, refl}
use Rattle.index_v2.proofs.Differences.{gap_start, gap_end}
use Rattle.index_v2.proofs.RankedGaps.{ranked_among}
use Rattle.index_v2.proofs.difference.first_gap.Goals as goal

pub loop-place-init : goal.loop-place-init
loop-place-init c = λ symbols told listed are its. gap_start _ _ _ _

pub loop-place-preserved : goal.loop-place-preserved
loop-place-preserved c =
    λ symbols told listed are its. ranked_among symbols told _ _ listed _ _ _ _ _ _ _ _ its (c.loop-place.invariant symbols told listed are its) c.requires.as_many c.loop-place-test.true refl c.index-series-place.is c.members-labels.ensures
    (λ all ranked. c.gap_of-gap.ensures symbols told all are ranked) c.earlier_place-least.ensures

pub returns : goal.returns
returns c = λ symbols told listed are its. gap_end _ _ _ _ _ _ (c.loop-place.invariant symbols told listed are its) (omega arith)
