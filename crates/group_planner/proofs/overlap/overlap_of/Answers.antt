use Rattle.std.proofs.Common.{arith, rules}
use Rattle.std.specs.Prelude.{FitsSigned}
use Rattle.std.specs.Int.{w64}
use Rattle.std.proofs.lemmas.Int.{to_z-of_z}
use Rattle.group_planner.proofs.OverlapLaws.{overlap_at_of, first_and_others}
use Rattle.group_planner.proofs.overlap.overlap_of.Goals as goal

pub returns : goal.returns
returns c =
    let begin : FitsSigned w64 c.first-item.result.max_time = search rules in
    let end : FitsSigned w64 c.run_length-apart.result.1 = search rules in
    overlap_at_of c.args.metas.now c.first-item.result _ c.split_at.result.1.now c.overlap_at.result.now c.run_length-apart.result.0 c.run_length-count.result.0 _ _ _
    (first_and_others c.args.metas.now c.first-item.result (omega (arith, c.in-len1-up.len_at_least)) c.first-item.is) (to_z-of_z w64 c.first-item.result.max_time begin) (to_z-of_z w64 c.run_length-apart.result.1 end)
    c.run_length-apart.ensures.within c.run_length-count.ensures.within c.split_at.ensures.back
    c.run_length-apart.ensures.longest c.run_length-apart.ensures.end c.run_length-count.ensures.longest c.overlap_at.ensures
