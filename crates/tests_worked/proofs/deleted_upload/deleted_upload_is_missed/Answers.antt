use Rattle.tests_worked.proofs.deleted.DeletedUpload.{finished, honest, run}
use Rattle.tests_worked.proofs.deleted_upload.deleted_upload_is_missed.Goals as goal

pub returns : goal.returns
returns c = record { run = run; finished = finished; honest = honest }
