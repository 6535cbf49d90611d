use Rattle.std.proofs.Common.{arith, refl}
use Rattle.index_v2.proofs.Differences.{gaps_start}
use Rattle.index_v2.proofs.RankedGaps.{ranked_gap, ranked_gaps}
use Rattle.index_v2.proofs.difference.gap_of.Goals as goal

pub loop-label-init : goal.loop-label-init
loop-label-init c = λ symbols told all are its. gaps_start _ _ _ _

pub loop-label-preserved : goal.loop-label-preserved
loop-label-preserved c =
    λ symbols told all are its. ranked_gap symbols told _ _ all _ _ _ _ _ _ _ its (c.loop-label.invariant symbols told all are its) c.loop-label-test.true refl
    (λ one is. c.gap_at-gap.ensures symbols told one are is) c.earlier_place-least.ensures

pub returns : goal.returns
returns c = λ symbols told all are its. ranked_gaps symbols told _ _ all _ _ _ its (c.loop-label.invariant symbols told all are its) (omega arith)
