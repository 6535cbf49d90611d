use Rattle.tests_worked.proofs.late.LateBreach.{explained, is_breach, only_cause}
use Rattle.tests_worked.proofs.late_compaction.late_compaction_is_the_breach.Goals as goal

pub returns : goal.returns
returns c = record { breach = is_breach; explained = explained; only = only_cause }
