use Rattle.std.proofs.Common.{◌∙◌, rules}
use Rattle.std.specs.Int.{w64}
use Rattle.std.specs.Prelude.{FitsSigned}
use Rattle.std.proofs.lemmas.Int.{to_z-of_z}
use Rattle.vertical_merge.proofs.Extremes.{greatest_alone, greatest_more}
use Rattle.vertical_merge.proofs.compacted.greatest_time.Goals as goal

pub loop-meta-init : goal.loop-meta-init
loop-meta-init c =
    let fits : FitsSigned w64 c.args.first.now.max_time = search rules in
    greatest_alone _ _ _ (to_z-of_z w64 c.args.first.now.max_time fits)

pub loop-meta-preserved : goal.loop-meta-preserved
loop-meta-preserved c =
    let fits : FitsSigned w64 c.later_end-greatest.result = search rules in
    greatest_more _ _ _ _ _ _ _ c.loop-meta-test.true c.meta-item.is
    (to_z-of_z w64 c.later_end-greatest.result fits ∙ c.later_end-greatest.ensures) c.loop-meta.invariant
