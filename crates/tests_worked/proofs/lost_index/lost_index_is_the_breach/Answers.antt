use Rattle.tests_worked.proofs.one.OneUnbroken.{lost_is_breach}
use Rattle.tests_worked.proofs.lost_index.lost_index_is_the_breach.Goals as goal

pub returns : goal.returns
returns c = lost_is_breach
