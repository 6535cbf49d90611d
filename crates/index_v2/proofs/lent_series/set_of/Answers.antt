use Rattle.std.proofs.Common.{refl, arith}
use Rattle.index_v2.proofs.LabelsOwned.{has_room, copied_step, copied_end}
use Rattle.index_v2.proofs.lent_series.set_of.Goals as goal

pub add_label-requires : goal.add_label-requires
add_label-requires c = has_room _ _ _ _ _ c.requires c.loop-label.invariant c.loop-label-test.true refl

pub loop-label-preserved : goal.loop-label-preserved
loop-label-preserved c = copied_step _ _ _ _ _ c.requires c.loop-label.invariant c.loop-label-test.true refl _ _ refl c.in_ok-add_label.ensures

pub returns : goal.returns
returns c = copied_end _ _ _ c.loop-label.invariant (omega arith)
