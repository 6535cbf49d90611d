use Rattle.index_parts.proofs.Loops.{AreRead}
use Rattle.index_parts.proofs.series_reading.labels_of.Given as goal

abbrev pub invariant-loop : goal.invariant-loop
invariant-loop l = AreRead l.names.items l.values.items l.counter l.fn.cursor l.cursor
