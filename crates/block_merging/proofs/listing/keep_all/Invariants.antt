use Rattle.std.proofs.Common.{take}
use Rattle.std.specs.List.{AllByRecursion}
use Rattle.block_merging.specs.Queues.{LosesNothing}
use Rattle.block_merging.proofs.listing.keep_all.Given as goal

abbrev pub invariant-loop-one : goal.invariant-loop-one
invariant-loop-one l = AllByRecursion (LosesNothing l.external l.replicas) (take l.one-index l.indexed)
