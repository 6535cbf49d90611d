use Rattle.std.proofs.Common.{take}
use Rattle.std.specs.List.{AllByRecursion}
use Rattle.block_merging.specs.Inputs.{LiesWithin}
use Rattle.block_merging.proofs.mergeable.may_merge.Given as goal

abbrev pub invariant-loop-input : goal.invariant-loop-input
invariant-loop-input l = AllByRecursion (LiesWithin l.plan) (take l.input-index l.inputs)
