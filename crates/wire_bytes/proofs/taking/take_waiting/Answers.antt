use Rattle.std.proofs.Common.{refl, arith}
use Rattle.wire_bytes.proofs.Buffers.{taken, taken_below, split}
use Rattle.wire_bytes.proofs.taking.take_waiting.Goals as goal

pub returns-clause-taken : goal.returns-clause-taken
returns-clause-taken c = taken _ _ _ _ _ _ c.requires.buffer (omega arith) c.requires.wait refl refl

pub returns-clause-number : goal.returns-clause-number
returns-clause-number c = taken_below _ _ (omega arith) c.ranges.word.fits

pub returns-clause-buffer : goal.returns-clause-buffer
returns-clause-buffer c = (split _ _ _ _ _ c.requires.buffer c.requires.wait refl refl).0
