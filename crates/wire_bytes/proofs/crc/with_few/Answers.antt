use Rattle.base.proofs.Fronts.{IsBytes-drop}
use Rattle.wire_bytes.specs.Crc.{remainder}
use Rattle.wire_bytes.proofs.Division.{half_more, byte_more, all_read}
use Rattle.wire_bytes.proofs.crc.with_few.Goals as goal

pub loop-rest-preserved : goal.loop-rest-preserved
loop-rest-preserved c =
    let rest = c.loop-rest.rest.now in
    let total = remainder c.args.before c.args.bytes.now in
    record {
      whole = rw (c.with_half-sum.ensures, c.half_of.ensures, c.split_at.ensures.front, c.split_at.ensures.back) (half_more c.loop-rest.sum total rest c.loop-rest-test.true c.loop-rest.invariant.rest_bytes c.loop-rest.invariant.whole);
      rest_bytes = rw c.split_at.ensures.back (IsBytes-drop 4 rest c.loop-rest.invariant.rest_bytes);
    }

pub loop-byte-preserved : goal.loop-byte-preserved
loop-byte-preserved c =
    let rest = c.loop-rest.rest.now in
    let total = remainder c.args.before c.args.bytes.now in
    rw c.with_byte-sum.ensures (byte_more _ _ _ _ c.loop-byte-test.true c.loop-rest.invariant.rest_bytes c.loop-byte.invariant)

pub returns : goal.returns
returns c = all_read _ _ _ _ c.loop-byte-test.false c.loop-byte.invariant
