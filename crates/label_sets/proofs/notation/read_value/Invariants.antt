use Rattle.std.proofs.Common.{◌≡◌, false, length}
use Rattle.label_sets.specs.Notation.{value_at}
use Rattle.label_sets.proofs.ReadValues.{before}
use Rattle.label_sets.proofs.notation.read_value.Given as goal

abbrev pub invariant-loop-value : goal.invariant-loop-value
invariant-loop-value l = value_at false l.text ≡ before l.value.items (value_at false l.rest)

abbrev pub decreases-loop-value : goal.decreases-loop-value
decreases-loop-value l = length l.rest
