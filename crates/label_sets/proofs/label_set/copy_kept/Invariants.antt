use Rattle.std.proofs.Common.{◌≡◌, ◌++◌, take}
use Rattle.label_sets.specs.Finals.{reduced_of}
use Rattle.label_sets.proofs.label_set.copy_kept.Given as goal

abbrev pub invariant-loop-label : goal.invariant-loop-label
invariant-loop-label l = l.kept.items ≡ l.initial.kept.items ++ reduced_of (take l.label-index l.labels) l.external l.replicas
