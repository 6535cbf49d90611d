use Rattle.index_v2.proofs.FullLists.{full_lists_are_few}
use Rattle.index_v2.proofs.laws.full_lists_are_few.Goals as goal

pub returns : goal.returns
returns c = λ opened listed is series full. full_lists_are_few opened listed is series full
