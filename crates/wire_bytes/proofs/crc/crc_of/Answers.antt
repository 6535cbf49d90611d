use Rattle.std.proofs.Common.{◌∙◌, ap}
use Rattle.std.specs.Int.Bits.{bit_xor}
use Rattle.wire_bytes.specs.Crc.{ones, crc}
use Rattle.wire_bytes.proofs.Division.{remainder-split}
use Rattle.wire_bytes.proofs.crc.crc_of.Goals as goal

pub loop-rest-preserved : goal.loop-rest-preserved
loop-rest-preserved c =
    rw (c.with_sixteen-sum.ensures, c.split_at.ensures.front, c.split_at.ensures.back) (remainder-split 16 _ _ ∙ c.loop-rest.invariant)

pub returns : goal.returns
unfolding crc
returns c = ap (λ sum. bit_xor sum ones) (c.with_few.ensures ∙ c.loop-rest.invariant)
