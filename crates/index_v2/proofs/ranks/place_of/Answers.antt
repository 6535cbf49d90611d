use Rattle.std.proofs.Common.{arith, refl, ◌+◌, ◌-◌, ◌/◌}
use Rattle.index_v2.proofs.RankPlaces.{raised, lowered, stands_here, ends_between}
use Rattle.index_v2.proofs.ranks.place_of.Goals as goal

pub loop-low-preserved-in-Less : goal.loop-low-preserved-in-Less
loop-low-preserved-in-Less c =
    let middle = c.loop-low.low + (c.loop-low.high - c.loop-low.low) / 2 in (
      λ rows name value alike. raised rows _ name value _ alike c.loop-low.low c.loop-low.high middle _ _ _ (c.loop-low.invariant.0 rows name value alike) (omega arith) (omega (arith, c.loop-low.invariant.1)) refl c.compare_ranks.ensures _ c.in-Less.is refl,
      c.loop-low.invariant.1,
    )

pub returns-in-Equal-clause-found : goal.returns-in-Equal-clause-found
returns-in-Equal-clause-found c =
    let middle = c.loop-low.low + (c.loop-low.high - c.loop-low.low) / 2 in
    λ rows name value alike. stands_here rows _ name value _ alike middle _ _ _ (omega (arith, c.loop-low.invariant.1)) refl c.compare_ranks.ensures c.in-Equal.is

pub loop-low-preserved : goal.loop-low-preserved
loop-low-preserved c =
    let middle = c.loop-low.low + (c.loop-low.high - c.loop-low.low) / 2 in (
      λ rows name value alike. lowered rows _ name value _ alike c.loop-low.low c.loop-low.high middle _ _ _ (c.loop-low.invariant.0 rows name value alike) (omega arith) (omega (arith, c.loop-low.invariant.1)) refl c.compare_ranks.ensures (omega arith) c.in-Greater.is,
      omega (arith, c.loop-low.invariant.1),
    )

pub returns-clause-absent : goal.returns-clause-absent
returns-clause-absent c = λ rows name value alike. ends_between rows _ name value _ alike c.loop-low.low c.loop-low.high (c.loop-low.invariant.0 rows name value alike) c.loop-low-test.false
