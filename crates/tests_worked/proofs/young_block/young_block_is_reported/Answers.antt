use Rattle.std.proofs.Common.{refl}
use Rattle.tests_worked.specs.YoungBlock.{early, late, early_turned, late_turned}
use Rattle.tests_worked.proofs.young.YoungBlock.{finished}
use Rattle.tests_worked.proofs.young.YoungReport.{reports}
use Rattle.tests_worked.proofs.young_block.young_block_is_reported.Goals as goal

pub returns : goal.returns
returns c = record { finished = finished early late; report = reports early late refl refl; turned_finished = finished early_turned late_turned; turned_report = reports early_turned late_turned refl refl }
