use Rattle.std.proofs.Common.{◌≡◌, ◌∙◌, sym, arith, rules}
use Rattle.std.specs.Prelude.{FitsSigned}
use Rattle.std.specs.Int.{w64}
use Rattle.std.proofs.lemmas.Int.{to_z-of_z}
use Rattle.group_planner.proofs.OverlapLaws.{counted_more}
use Rattle.group_planner.proofs.overlap.run_length.Goals as goal

pub loop-place-preserved : goal.loop-place-preserved
loop-place-preserved c =
    let test : c.overlaps.result ≡ c.args.overlapping = first_of (search rules, grind arith) in
    let fit : FitsSigned w64 c.later_end-end.result = search rules in
    counted_more c.args.overlapping c.args.metas.now c.loop-place.place c.index-metas-place.result _ _ _ c.loop-place-test.true c.index-metas-place.is
    (sym c.overlaps.ensures ∙ test) (to_z-of_z w64 c.later_end-end.result fit ∙ c.later_end-end.ensures) c.loop-place.invariant
