use Rattle.std.proofs.Common.{◌≡◌, ◌/◌, ◌%◌, arith}
use Rattle.wire_bytes.proofs.Division.{four_entries}
use Rattle.wire_bytes.proofs.crc.times_half.Goals as goal

pub returns : goal.returns
returns c =
    let half = c.args.half in
    let lowest : half / 1 % 256 ≡ half % 256 = omega arith in
    rw (
      c.entry.ensures,
      c.entry-2.ensures,
      c.entry-3.ensures,
      c.entry-4.ensures,
      c.byte_of.ensures,
      c.byte_of-2.ensures,
      c.byte_of-3.ensures,
      c.byte_of-4.ensures,
      lowest,
    ) (four_entries _ _ (omega arith))
