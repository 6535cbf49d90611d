use Rattle.std.proofs.Common.{◌≡◌, take}
use Rattle.label_sets.proofs.label_set.LabelSetTryCopy.copy.Given as goal

abbrev pub invariant-loop-label : goal.invariant-loop-label
invariant-loop-label l = l.labels.items ≡ take l.label-index l.label-items
