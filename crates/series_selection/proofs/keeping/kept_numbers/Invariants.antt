use Rattle.std.proofs.Common.{◌-◌, length}
use Rattle.series_selection.proofs.KeptNumbers.{KeptSoFar}
use Rattle.series_selection.proofs.keeping.kept_numbers.Given as goal

abbrev pub invariant-loop-here : goal.invariant-loop-here
invariant-loop-here l = KeptSoFar l.wanted l.others l.numbers l.here l.there l.left.items

abbrev pub decreases-loop-here : goal.decreases-loop-here
decreases-loop-here l = length l.numbers - l.here
