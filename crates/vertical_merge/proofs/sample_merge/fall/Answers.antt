use Rattle.vertical_merge.proofs.TimesMerged.{none_falls}
use Rattle.vertical_merge.proofs.sample_merge.fall.Goals as goal

pub returns-in-None : goal.returns-in-None
returns-in-None c = none_falls _ _ _ c.in-None.ensures c.last_fall.ensures
