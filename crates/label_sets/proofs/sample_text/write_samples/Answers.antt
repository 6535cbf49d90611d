use Rattle.std.proofs.Common.{arith, rules}
use Rattle.label_sets.proofs.SampleParts.{none_stand, sample_before}
use Rattle.label_sets.proofs.sample_text.write_samples.Goals as goal

pub loop-place-init : goal.loop-place-init
loop-place-init c = record { size = search rules; some = omega arith; room = omega arith; within = omega arith; written = none_stand c.args.field.now c.args.samples.now (search rules) }

pub loop-place-preserved : goal.loop-place-preserved
loop-place-preserved c =
    let l = c.loop-place in
    let step = c.write_sample-start in
    record {
      size = step.array_long;
      some = omega (arith, l.invariant.some);
      room = omega (arith, l.invariant.room, step.ensures.near, c.loop-place-test.true);
      within = omega (arith, l.invariant.within, step.ensures.before);
      written = sample_before l.field step.new.field c.args.samples.now _ l.place l.start step.result c.loop-place-test.true l.invariant.some l.invariant.written step.ensures.written;
    }
