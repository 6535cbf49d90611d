use Rattle.lifecycle_core.proofs.activities.MergedBlocks.{merge_holds}
use Rattle.lifecycle_core.proofs.activity_laws.merges_hold_what_was_held.Goals as goal

pub returns : goal.returns
returns c = merge_holds
