use Rattle.compactor.proofs.SyncParts.{falls, joins}
use Rattle.compactor.proofs.laws.compactions_begin_with_a_sync.Goals as goal

pub returns : goal.returns
returns c = record { falls = falls; joins = joins }
