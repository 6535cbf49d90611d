use Rattle.wire_bytes.proofs.BitLists.{bits_of-nil}
use Rattle.xor_chunks.proofs.pending_bits.PendingBits.none.Goals as goal

pub returns : goal.returns
returns c = bits_of-nil 0
