use Rattle.lifecycle_core.proofs.journals.UnbrokenHonest.{told_or_lies}
use Rattle.lifecycle_core.proofs.laws.replies_lie_where_they_do_not_tell.Goals as goal

pub returns : goal.returns
returns c = told_or_lies
