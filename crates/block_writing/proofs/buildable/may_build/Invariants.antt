use Rattle.std.proofs.Common.{take}
use Rattle.std.specs.List.{AllByRecursion}
use Rattle.block_writing.specs.Built.{AreOfBlock}
use Rattle.block_writing.specs.Writing.{plan_fields}
use Rattle.block_writing.proofs.buildable.may_build.Given as goal

abbrev pub invariant-loop-one : goal.invariant-loop-one
invariant-loop-one l = AllByRecursion (λ s. AreOfBlock (plan_fields l.plan) s.samples) (take l.one-index l.series)
