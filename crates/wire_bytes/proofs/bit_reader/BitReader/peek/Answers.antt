use Rattle.std.proofs.Common.{ap, ◌∙◌, arith}
use Rattle.wire_bytes.specs.Buffer.{front}
use Rattle.wire_bytes.proofs.Buffers.{front_is, fewer_wait}
use Rattle.wire_bytes.proofs.bit_reader.BitReader.peek.Goals as goal

pub returns-clause-bits : goal.returns-clause-bits
returns-clause-bits c = record {
  first = λ n le.
      let r = c.refill_word-word in
      front_is _ _ n _ r.ensures.buffer (omega arith) (omega arith) (fewer_wait n _ _ _ le r.ensures.ready) ∙ ap (front n) (r.ensures.same ∙ c.self.view_is);
}
