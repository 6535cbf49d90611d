use Rattle.std.proofs.Common.{take}
use Rattle.script_running.specs.Lending.{AreTextsOf}
use Rattle.script_running.proofs.means.texts_of.Given as goal

-- the texts so far are those of the selectors so far
abbrev pub invariant-loop-selector : goal.invariant-loop-selector
invariant-loop-selector l = AreTextsOf (take l.selector-index l.selectors) l.texts
