use Rattle.sync_filters.specs.Holders.{HasLarger}
use Rattle.sync_filters.proofs.holders.fewest_larger.Given as goal

abbrev pub invariant-loop-source : goal.invariant-loop-source
invariant-loop-source l = HasLarger l.holders l.fn.sources l.few
