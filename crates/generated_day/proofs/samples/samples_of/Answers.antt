use Rattle.std.proofs.Common.{◌∙◌, arith}
use Rattle.generated_day.specs.Day.{sample_part, day_samples}
use Rattle.generated_day.proofs.Parts.{part_more, part_end}
use Rattle.generated_day.proofs.samples.samples_of.Goals as goal

pub loop-place-preserved : goal.loop-place-preserved
loop-place-preserved c =
    part_more (sample_part c.args.number c.args.block c.args.replica c.args.series) _ _ _ c.loop-place.place 480 c.loop-place-test.true c.in_ok-push_sample.ensures c.loop-place.invariant

pub returns : goal.returns
unfolding day_samples
returns c =
    c.from_vec.ensures
    ∙ part_end (sample_part c.args.number c.args.block c.args.replica c.args.series) _ _ c.loop-place.place 480 (omega arith) c.loop-place.invariant
