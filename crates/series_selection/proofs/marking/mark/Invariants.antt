use Rattle.series_selection.proofs.Marks.{MarkedSoFar}
use Rattle.series_selection.proofs.marking.mark.Given as goal

abbrev pub invariant-loop-number : goal.invariant-loop-number
invariant-loop-number l = MarkedSoFar l.numbers l.list l.number-index l.fn.marks.items l.marks.items
