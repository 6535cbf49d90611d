use Rattle.lifecycle_core.proofs.activities.SyncSights.{sync_sight}
use Rattle.lifecycle_core.proofs.activity_laws.syncs_see_so.Goals as goal

pub returns : goal.returns
returns c = λ rules entries view run. sync_sight rules entries view run
