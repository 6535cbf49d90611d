use Rattle.std.proofs.Common.{◌≡◌, map, take}
use Rattle.label_sets.specs.Finals.{reduced_of}
use Rattle.index_v2.specs.LentLabels.{as_label}
use Rattle.block_merging.proofs.lent_labels.reduced_lent.Given as goal

abbrev pub invariant-loop-label : goal.invariant-loop-label
invariant-loop-label l = map as_label l.kept.items ≡ reduced_of (take l.label-index (map as_label l.labels)) l.external l.replicas
