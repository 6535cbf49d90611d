use Rattle.std.proofs.Common.{◌≡◌, map, take}
use Rattle.index_v2.specs.LentLabels.{as_label}
use Rattle.index_v2.proofs.lent_series.set_of.Given as goal

abbrev pub invariant-loop-label : goal.invariant-loop-label
invariant-loop-label l = l.set ≡ map as_label (take l.label-index l.labels)
