use Rattle.std.proofs.Common.{take, ◌∷◌}
use Rattle.vertical_merge.specs.Compacted.{IsLeast}
use Rattle.vertical_merge.proofs.compacted.least_time.Given as goal

abbrev pub invariant-loop-meta : goal.invariant-loop-meta
invariant-loop-meta l = IsLeast (λ meta. meta.min_time) (l.first ∷ take l.meta-index l.others) l.least
