use Rattle.std.proofs.Common.{◌∙◌}
use Rattle.std.specs.Int.{w8}
use Rattle.journal_records.proofs.KeptBytes.{number_keeps}
use Rattle.journal_records.proofs.reader.Reader.next_u8.Goals as goal

pub invariant_of-self : goal.invariant_of-self
invariant_of-self c = number_keeps w8 _ _ _ c.take_u8.ensures.exact ∙ c.self.invariant
