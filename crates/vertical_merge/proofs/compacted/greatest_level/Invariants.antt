use Rattle.std.proofs.Common.{take, ◌∷◌}
use Rattle.vertical_merge.specs.Compacted.{IsGreatestLevel}
use Rattle.vertical_merge.proofs.compacted.greatest_level.Given as goal

abbrev pub invariant-loop-meta : goal.invariant-loop-meta
invariant-loop-meta l = IsGreatestLevel (l.first ∷ take l.meta-index l.others) l.greatest
