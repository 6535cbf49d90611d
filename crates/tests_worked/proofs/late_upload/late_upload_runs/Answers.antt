use Rattle.tests_worked.proofs.late.LateUpload.{run}
use Rattle.tests_worked.proofs.late_upload.late_upload_runs.Goals as goal

pub returns : goal.returns
returns c = run
