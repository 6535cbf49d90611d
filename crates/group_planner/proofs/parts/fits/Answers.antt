use Rattle.std.proofs.Common.{◌≡◌, ◌∙◌, ap, to_z, of_z, arith, rules}
use Rattle.std.specs.Prelude.{int_le, ◌+ℤ◌, FitsSigned}
use Rattle.std.specs.Int.{w64, w128}
use Rattle.std.proofs.lemmas.Int.{ints, to_z-of_z}
use Rattle.group_planner.specs.Parts.{start_of}
use Rattle.group_planner.proofs.parts.fits.Goals as goal

pub returns : goal.returns
returns c =
    let ends : to_z w128 (of_z w128 c.from.result) ≡ c.args.meta.now.max_time = omega (arith, ints) in
    let fit : FitsSigned w128 c.stretch_end.result = search rules in
    let stretch : to_z w128 (of_z w128 c.stretch_end.result) ≡ start_of c.args.range c.args.meta.now.min_time +ℤ c.args.range =
    to_z-of_z w128 c.stretch_end.result fit ∙ c.stretch_end.ensures
    ∙ ap (λ r. start_of r c.args.meta.now.min_time +ℤ r) (to_z-of_z w64 c.args.range c.ranges.range) in
    λ i. int_le (ends i) (stretch i)
