use Rattle.std.proofs.Common.{take, ◌∷◌}
use Rattle.vertical_merge.specs.Compacted.{IsGreatest}
use Rattle.vertical_merge.proofs.compacted.greatest_time.Given as goal

abbrev pub invariant-loop-meta : goal.invariant-loop-meta
invariant-loop-meta l = IsGreatest (λ meta. meta.max_time) (l.first ∷ take l.meta-index l.others) l.greatest
