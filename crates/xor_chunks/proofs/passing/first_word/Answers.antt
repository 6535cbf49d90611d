use Rattle.std.proofs.Common.{ap, ◌∙◌, arith}
use Rattle.wire_bytes.specs.Bits.{bits_of}
use Rattle.wire_bytes.proofs.Buffers.{word_bits}
use Rattle.xor_chunks.proofs.passing.first_word.Goals as goal

pub returns : goal.returns
returns c = ap (bits_of 64) c.from_be_bytes.ensures ∙ word_bits c.args.bytes.now (λ i. omega (arith, c.type_inv.bytes i)) c.requires
