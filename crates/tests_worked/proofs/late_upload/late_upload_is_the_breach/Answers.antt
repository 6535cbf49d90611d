use Rattle.tests_worked.proofs.one.OneUnbroken.{late_is_breach}
use Rattle.tests_worked.proofs.late_upload.late_upload_is_the_breach.Goals as goal

pub returns : goal.returns
returns c = late_is_breach
