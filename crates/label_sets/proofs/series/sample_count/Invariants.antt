use Rattle.std.proofs.Common.{◌≡◌, take}
use Rattle.label_sets.specs.Counts.{sample_count}
use Rattle.label_sets.proofs.series.sample_count.Given as goal

abbrev pub invariant-loop-one : goal.invariant-loop-one
invariant-loop-one l = l.count ≡ sample_count (take l.one-index l.series)
