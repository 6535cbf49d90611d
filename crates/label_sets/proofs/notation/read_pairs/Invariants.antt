use Rattle.std.proofs.Common.{length}
use Rattle.std.specs.Str.{IsUtf8}
use Rattle.label_sets.proofs.ReadWalks.{IsOnTheWay}
use Rattle.label_sets.proofs.notation.read_pairs.Given as goal

abbrev pub invariant-loop-rest : goal.invariant-loop-rest
invariant-loop-rest l = record { way : IsOnTheWay l.text l.labels.items l.pair; utf8 : IsUtf8 l.pair }

abbrev pub decreases-loop-rest : goal.decreases-loop-rest
decreases-loop-rest l = length l.pair
