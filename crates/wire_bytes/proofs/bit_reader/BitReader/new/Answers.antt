use Rattle.wire_bytes.proofs.Buffers.{buffered-nil}
use Rattle.wire_bytes.proofs.bit_reader.BitReader.new.Goals as goal

pub returns : goal.returns
returns c = buffered-nil _
