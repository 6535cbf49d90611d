use Rattle.std.proofs.Common.{take}
use Rattle.std.specs.List.{AllByRecursion}
use Rattle.label_sets.specs.Times.{IsWithin}
use Rattle.block_writing.proofs.buildable.are_of_block.Given as goal

abbrev pub invariant-loop-sample : goal.invariant-loop-sample
invariant-loop-sample l = AllByRecursion (IsWithin l.plan.min_time l.plan.max_time) (take l.sample-index l.samples)
