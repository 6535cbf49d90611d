use Rattle.std.proofs.Common.{◌≡◌, length, drop}
use Rattle.base.specs.Grammar.{IsBytes}
use Rattle.wire_bytes.specs.Crc.{remainder}
use Rattle.wire_bytes.proofs.crc.with_few.Given as goal

-- what was read, before what is still to be read, gives what all bytes give
abbrev pub invariant-loop-rest : goal.invariant-loop-rest
invariant-loop-rest l = record {
  whole : remainder l.sum l.rest ≡ remainder l.before l.bytes;
  rest_bytes : IsBytes l.rest;
}

abbrev pub decreases-loop-rest : goal.decreases-loop-rest
decreases-loop-rest l = length l.rest

abbrev pub invariant-loop-byte : goal.invariant-loop-byte
invariant-loop-byte l = remainder l.sum (drop l.byte-index l.byte-items) ≡ remainder l.before l.bytes
