use Rattle.std.proofs.Common.{◌≡◌, ◌++◌, take}
use Rattle.label_sets.specs.Notation.{quoted}
use Rattle.label_sets.proofs.notation.put_quoted.Given as goal

abbrev pub invariant-loop-byte : goal.invariant-loop-byte
invariant-loop-byte l = l.out.items ≡ l.initial.out.items ++ quoted (take l.byte-index l.value)
