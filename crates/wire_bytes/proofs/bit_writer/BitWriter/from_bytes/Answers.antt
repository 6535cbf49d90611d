use Rattle.wire_bytes.proofs.Writers.{behind_bytes}
use Rattle.wire_bytes.proofs.bit_writer.BitWriter.from_bytes.Goals as goal

pub returns : goal.returns
returns c = behind_bytes _
