use Rattle.std.proofs.Common.{◌≡◌}
use Rattle.block_writing.proofs.finishing.bytes_of.Given as goal

abbrev pub invariant-loop-writer : goal.invariant-loop-writer
invariant-loop-writer l = l.segments ≡ l.yielded
