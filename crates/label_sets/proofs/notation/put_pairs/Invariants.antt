use Rattle.std.proofs.Common.{◌≡◌, ◌++◌, take}
use Rattle.std.specs.List.{flat_map}
use Rattle.label_sets.specs.Notation.{comma_pair_text}
use Rattle.label_sets.proofs.notation.put_pairs.Given as goal

abbrev pub invariant-loop-label : goal.invariant-loop-label
invariant-loop-label l = l.out.items ≡ l.initial.out.items ++ flat_map comma_pair_text (take l.label-index l.others)
