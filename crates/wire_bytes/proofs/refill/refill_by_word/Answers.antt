use Rattle.std.proofs.Common.{arith, refl}
use Rattle.wire_bytes.proofs.Buffers.{by_word}
use Rattle.wire_bytes.proofs.refill.refill_by_word.Goals as goal

pub returns : goal.returns
returns c =
    let all = by_word _ _ _ _ _ c.requires.buffer c.requires.room refl c.from_be_bytes-next.type_inv c.from_be_bytes-next.ensures (λ i. omega (arith, c.type_inv.bytes i)) c.requires.bytes in
    record { same = all.1; buffer = all.0; full = omega arith }
