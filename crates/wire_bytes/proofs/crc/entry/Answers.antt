use Rattle.wire_bytes.proofs.CrcTables.{entry_is}
use Rattle.wire_bytes.proofs.crc.entry.Goals as goal

pub returns : goal.returns
returns c = entry_is _ _ c.requires.slice c.requires.byte
