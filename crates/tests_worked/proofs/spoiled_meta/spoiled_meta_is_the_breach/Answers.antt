use Rattle.tests_worked.proofs.SpoiledMeta.{is_breach}
use Rattle.tests_worked.proofs.spoiled_meta.spoiled_meta_is_the_breach.Goals as goal

pub returns : goal.returns
returns c = is_breach
