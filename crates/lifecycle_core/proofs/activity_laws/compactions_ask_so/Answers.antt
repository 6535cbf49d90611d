use Rattle.lifecycle_core.proofs.activities.CompactionAsks.{compaction_op}
use Rattle.lifecycle_core.proofs.activity_laws.compactions_ask_so.Goals as goal

pub returns : goal.returns
returns c = λ rules own e rest end run. compaction_op rules own e rest end run
