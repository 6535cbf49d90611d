use Rattle.wire_bytes.proofs.Division.{sixteen_are}
use Rattle.wire_bytes.proofs.crc.with_sixteen.Goals as goal

pub returns : goal.returns
returns c =
    rw (
      c.times_half.ensures,
      c.times_half-2.ensures,
      c.times_half-3.ensures,
      c.times_half-4.ensures,
      c.half_of.ensures,
      c.half_of-2.ensures,
      c.half_of-3.ensures,
      c.half_of-4.ensures,
      c.split_at-3.ensures.front,
      c.split_at-3.ensures.back,
      c.split_at-2.ensures.front,
      c.split_at-2.ensures.back,
      c.split_at.ensures.front,
      c.split_at.ensures.back,
    ) (sixteen_are _ _ c.requires (λ i. (c.type_inv.bytes i).fits))
