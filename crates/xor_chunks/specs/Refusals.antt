-- Refusals of XOR data.
use Rattle.wire_bytes.specs.declared.varint.WireRefusal.{WireRefusal}
use Rattle.wire_bytes.specs.declared.varint.WireRefusal.TheVariants as wire
use Rattle.xor_chunks.specs.declared.refusal.XorRefusal.{XorRefusal}
use Rattle.xor_chunks.specs.declared.refusal.XorRefusal.TheVariants.{Short, OutOfRange}

-- a refusal of a number in bytes, said of XOR data
abbrev pub xor_refusal : WireRefusal → XorRefusal
xor_refusal wire.Short = Short
xor_refusal wire.Overlong = OutOfRange
