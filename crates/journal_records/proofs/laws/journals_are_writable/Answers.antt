use Rattle.journal_records.proofs.Writables.{world_writable}
use Rattle.journal_records.proofs.laws.journals_are_writable.Goals as goal

pub returns : goal.returns
returns c = world_writable
