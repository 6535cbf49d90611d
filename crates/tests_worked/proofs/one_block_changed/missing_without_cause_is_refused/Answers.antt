use Rattle.tests_worked.proofs.one.OneUnsound.{no_cause, no_guarantee}
use Rattle.tests_worked.proofs.one_block_changed.missing_without_cause_is_refused.Goals as goal

pub returns : goal.returns
returns c = record { unexplained = no_cause; unguaranteed = no_guarantee }
