use Rattle.tests_worked.proofs.deleted.DeletedBreach.{explained, is_breach, only_cause}
use Rattle.tests_worked.proofs.deleted_upload.late_put_is_the_breach.Goals as goal

pub returns : goal.returns
returns c = record { breach = is_breach; explained = explained; only = only_cause }
