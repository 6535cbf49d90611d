use Rattle.compactor.proofs.Counted.{counted}
use Rattle.compactor.proofs.laws.groups_are_counted.Goals as goal

pub returns : goal.returns
returns c = counted
