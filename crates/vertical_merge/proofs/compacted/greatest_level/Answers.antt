use Rattle.std.proofs.Common.{refl}
use Rattle.vertical_merge.proofs.Extremes.{level_alone, level_more}
use Rattle.vertical_merge.proofs.compacted.greatest_level.Goals as goal

pub loop-meta-init : goal.loop-meta-init
loop-meta-init c = level_alone _ _ refl

pub loop-meta-preserved : goal.loop-meta-preserved
loop-meta-preserved c =
    level_more _ _ _ _ _ _ c.loop-meta-test.true c.meta-item.is c.max-greatest.ensures c.loop-meta.invariant
