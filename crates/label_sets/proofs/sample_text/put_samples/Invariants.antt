use Rattle.std.proofs.Common.{◌≡◌, length}
use Rattle.label_sets.proofs.SampleParts.{SoFar}
use Rattle.label_sets.proofs.sample_text.put_samples.Given as goal

abbrev pub invariant-loop-left : goal.invariant-loop-left
invariant-loop-left l = record {
  size : length l.field ≡ 480;
  so_far : SoFar l.initial.out.items l.out.items l.samples l.left;
}

abbrev pub decreases-loop-left : goal.decreases-loop-left
decreases-loop-left l = length l.left
