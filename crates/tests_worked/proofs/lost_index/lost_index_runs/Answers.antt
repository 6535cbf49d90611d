use Rattle.std.proofs.Common.{refl}
use Rattle.tests_worked.proofs.one.OneGuaranteed as row
use Rattle.tests_worked.proofs.lost_index.lost_index_runs.Goals as goal

pub returns : goal.returns
returns c = record { run = row.lost_run; finished = row.lost_finished; calm = refl }
