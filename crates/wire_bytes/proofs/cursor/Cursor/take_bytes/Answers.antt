use Rattle.wire_bytes.proofs.FixedLaws.{bytes_found, bytes_short}
use Rattle.wire_bytes.proofs.cursor.Cursor.take_bytes.Goals as goal

pub returns-clause-found : goal.returns-clause-found
returns-clause-found c = bytes_found _ _ _ _ c.read_bytes.ensures.exact

pub returns-clause-short : goal.returns-clause-short
returns-clause-short c = bytes_short _ _ _ _ c.read_bytes.ensures.exact
