use Rattle.std.proofs.Common.{subst}
use Rattle.std.specs.Prelude.{IfOk}
use Rattle.block_content.specs.Checked.{checked_files}
use Rattle.block_loading.specs.Loading.{AreWithinLimit}
use Rattle.call_verdicts.proofs.ShelfReads.{are_short}
use Rattle.call_verdicts.proofs.shelf_reading.read_of.Goals as goal

pub of_checked-requires-clause-short : goal.of_checked-requires-clause-short
of_checked-requires-clause-short c = are_short (checked_files c.in-Ok.checked) (subst (λ r. IfOk r (λ own. AreWithinLimit (checked_files own))) c.in-Ok.is c.requires.within)

pub returns-in-Err-Refused-clause-held : goal.returns-in-Err-Refused-clause-held
returns-in-Err-Refused-clause-held c = c.of_refusal.ensures.held c.args.block.now
