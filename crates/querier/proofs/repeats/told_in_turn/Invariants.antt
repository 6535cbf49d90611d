use Rattle.std.specs.Prelude.{◌∷◌}
use Rattle.querier.specs.Gathered.{TellTheSame}
use Rattle.querier.proofs.repeats.told_in_turn.Given as goal

abbrev pub invariant-loop-answer : goal.invariant-loop-answer
invariant-loop-answer l = TellTheSame (l.fn.first ∷ l.yielded) l.told.items
