use Rattle.std.proofs.Common.{◌∙◌, rules}
use Rattle.std.specs.Int.{w64}
use Rattle.std.specs.Prelude.{FitsSigned}
use Rattle.std.proofs.lemmas.Int.{to_z-of_z}
use Rattle.vertical_merge.proofs.Extremes.{least_alone, least_more}
use Rattle.vertical_merge.proofs.compacted.least_time.Goals as goal

pub loop-meta-init : goal.loop-meta-init
loop-meta-init c =
    let fits : FitsSigned w64 c.args.first.now.min_time = search rules in
    least_alone _ _ _ (to_z-of_z w64 c.args.first.now.min_time fits)

pub loop-meta-preserved : goal.loop-meta-preserved
loop-meta-preserved c =
    let fits : FitsSigned w64 c.earlier_begin-least.result = search rules in
    least_more _ _ _ _ _ _ _ c.loop-meta-test.true c.meta-item.is
    (to_z-of_z w64 c.earlier_begin-least.result fits ∙ c.earlier_begin-least.ensures) c.loop-meta.invariant
