use Rattle.std.proofs.Common.{◌≡◌, drop}
use Rattle.std.specs.Prelude.{fold}
use Rattle.sync_filters.specs.Holders.{mixed}
use Rattle.sync_filters.proofs.digest.digest.Given as goal

abbrev pub invariant-loop-source : goal.invariant-loop-source
invariant-loop-source l = fold mixed l.digest (drop l.source-index l.sources) ≡ fold mixed 0 l.sources
