use Rattle.std.proofs.Common.{length}
use Rattle.vertical_merge.proofs.sample_merge.+merged_samples.Given as goal

abbrev pub decreases-merged_samples : goal.decreases-merged_samples
decreases-merged_samples l = length l.samples.now
