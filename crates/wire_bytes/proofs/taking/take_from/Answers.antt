use Rattle.wire_bytes.proofs.Crossings.{never_short}
use Rattle.wire_bytes.proofs.taking.take_from.Goals as goal

pub returns-then-need-count-clause-short : goal.returns-then-need-count-clause-short
returns-then-need-count-clause-short c = never_short _ _ _ _ c.take_waiting.ensures.taken

pub returns-then-bytes-ge8-clause-short : goal.returns-then-bytes-ge8-clause-short
returns-then-bytes-ge8-clause-short c = never_short _ _ _ _ c.take_across.ensures.taken
