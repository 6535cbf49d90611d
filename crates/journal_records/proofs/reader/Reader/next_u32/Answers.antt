use Rattle.std.proofs.Common.{◌∙◌}
use Rattle.std.specs.Int.{w32}
use Rattle.journal_records.proofs.KeptBytes.{number_keeps}
use Rattle.journal_records.proofs.reader.Reader.next_u32.Goals as goal

pub invariant_of-self : goal.invariant_of-self
invariant_of-self c = number_keeps w32 _ _ _ c.take_u32.ensures.exact ∙ c.self.invariant
