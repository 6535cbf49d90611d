use Rattle.std.proofs.Common.{◌≡◌, length}
use Rattle.wire_bytes.specs.Crc.{ones, remainder}
use Rattle.wire_bytes.proofs.crc.crc_of.Given as goal

-- what was read, before what is still to be read, gives what all bytes give
abbrev pub invariant-loop-rest : goal.invariant-loop-rest
invariant-loop-rest l = remainder l.sum l.rest ≡ remainder ones l.bytes

abbrev pub decreases-loop-rest : goal.decreases-loop-rest
decreases-loop-rest l = length l.rest
