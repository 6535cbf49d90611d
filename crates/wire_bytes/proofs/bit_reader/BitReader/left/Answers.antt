use Rattle.std.proofs.Common.{length, sym, ap, ◌∙◌, arith}
use Rattle.wire_bytes.proofs.Buffers.{length-buffered}
use Rattle.wire_bytes.proofs.bit_reader.BitReader.left.Goals as goal

pub returns : goal.returns
returns c =
    let i = c.self.inside in
    let len = sym (ap length c.self.view_is) ∙ length-buffered _ _ _ in
    omega arith
