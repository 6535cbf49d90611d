use Rattle.std.proofs.Common.{◌≡◌}
use Rattle.querier.specs.Gathered.{gathered_samples}
use Rattle.querier.proofs.gather.merged_all.Given as goal

abbrev pub invariant-loop-answer : goal.invariant-loop-answer
invariant-loop-answer l = l.merger ≡ gathered_samples l.yielded
