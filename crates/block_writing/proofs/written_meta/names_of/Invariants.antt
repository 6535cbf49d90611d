use Rattle.std.proofs.Common.{◌≡◌}
use Rattle.block_writing.specs.WrittenMeta.{names_from}
use Rattle.block_writing.proofs.written_meta.names_of.Given as goal

abbrev pub invariant-loop-place : goal.invariant-loop-place
invariant-loop-place l = l.names ≡ names_from 1 l.place
