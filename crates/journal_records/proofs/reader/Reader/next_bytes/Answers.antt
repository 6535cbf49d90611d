use Rattle.std.proofs.Common.{◌∙◌}
use Rattle.journal_records.proofs.KeptBytes.{bytes_keep}
use Rattle.journal_records.proofs.reader.Reader.next_bytes.Goals as goal

pub invariant_of-self : goal.invariant_of-self
invariant_of-self c = bytes_keep _ _ _ _ c.take_bytes.ensures.exact ∙ c.self.invariant
