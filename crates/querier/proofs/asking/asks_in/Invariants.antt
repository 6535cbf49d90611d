use Rattle.std.proofs.Common.{◌≡◌, take}
use Rattle.querier.specs.Asks.{asks_from}
use Rattle.querier.proofs.asking.asks_in.Given as goal

abbrev pub invariant-loop-place : goal.invariant-loop-place
invariant-loop-place l = l.asks ≡ asks_from l.times 0 (take l.place l.partitions)
