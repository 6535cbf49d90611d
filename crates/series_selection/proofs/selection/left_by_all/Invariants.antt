use Rattle.series_selection.proofs.AllLeft.{LeftSoFar}
use Rattle.series_selection.proofs.selection.left_by_all.Given as goal

abbrev pub invariant-loop-matcher : goal.invariant-loop-matcher
invariant-loop-matcher l = LeftSoFar l.index l.external l.matchers l.initial.left l.matcher-index l.left
