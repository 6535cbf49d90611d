use Rattle.wire_bytes.proofs.Division.{one_entry}
use Rattle.wire_bytes.proofs.crc.with_byte.Goals as goal

pub returns : goal.returns
returns c = rw (c.entry.ensures, c.from.ensures) (one_entry _)
