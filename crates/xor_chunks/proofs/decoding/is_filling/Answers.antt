use Rattle.std.proofs.Common.{arith}
use Rattle.xor_chunks.proofs.Loops.{all_left}
use Rattle.xor_chunks.proofs.decoding.is_filling.Goals as goal

pub returns-in-Ok : goal.returns-in-Ok
returns-in-Ok c = all_left _ _ _ _ _ c.left-left.ensures (omega arith) c.requires c.in-Ok.ensures.taken c.in-Ok.ensures.number
