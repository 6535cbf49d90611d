use Rattle.std.proofs.Common.{take}
use Rattle.block_writing.specs.Writing.{plan_fields}
use Rattle.block_writing.specs.Built.{IsPutOf}
use Rattle.block_writing.proofs.builder.build.Given as goal

abbrev pub invariant-loop-one : goal.invariant-loop-one
invariant-loop-one l = IsPutOf (plan_fields l.plan) (take l.one-index l.one-items) l.writer
