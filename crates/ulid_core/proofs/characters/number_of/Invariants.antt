use Rattle.std.proofs.Common.{◌≡◌, take}
use Rattle.ulid_core.specs.UlidText.{number_of}
use Rattle.ulid_core.proofs.characters.number_of.Given as goal

-- the number of the characters so far
abbrev pub invariant-loop-byte : goal.invariant-loop-byte
invariant-loop-byte l = l.number ≡ number_of (take l.byte-index l.bytes)
