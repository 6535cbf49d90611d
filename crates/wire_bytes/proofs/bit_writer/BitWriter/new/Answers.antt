use Rattle.wire_bytes.proofs.Writers.{nothing_written}
use Rattle.wire_bytes.proofs.bit_writer.BitWriter.new.Goals as goal

pub returns : goal.returns
returns c = nothing_written _ c.new.ensures.items
