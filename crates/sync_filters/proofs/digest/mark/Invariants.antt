use Rattle.std.proofs.Common.{◌≡◌, drop}
use Rattle.std.specs.Prelude.{fold}
use Rattle.sync_filters.specs.Holders.{with_bit}
use Rattle.sync_filters.proofs.digest.mark.Given as goal

abbrev pub invariant-loop-source : goal.invariant-loop-source
invariant-loop-source l = fold with_bit l.mark (drop l.source-index l.sources) ≡ fold with_bit 0 l.sources
