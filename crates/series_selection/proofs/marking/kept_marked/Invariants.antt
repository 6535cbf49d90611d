use Rattle.series_selection.proofs.Marks.{KeptMarked}
use Rattle.series_selection.proofs.marking.kept_marked.Given as goal

abbrev pub invariant-loop-place : goal.invariant-loop-place
invariant-loop-place l = KeptMarked l.wanted l.marks l.numbers l.place l.left.items
