use Rattle.std.proofs.Common.{◌≡◌, ◌++◌}
use Rattle.script_core.proofs.draft.push_all.Given as goal

abbrev pub invariant-loop-block : goal.invariant-loop-block
invariant-loop-block l = l.blocks ≡ l.initial.blocks ++ l.yielded
