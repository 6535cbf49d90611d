use Rattle.lifecycle_core.proofs.activities.CleaningAsks.{cleaning_op}
use Rattle.lifecycle_core.proofs.activity_laws.cleanings_ask_so.Goals as goal

pub returns : goal.returns
returns c = λ rules own e rest end run. cleaning_op rules own e rest end run
