use Rattle.lifecycle_core.proofs.journals.Honesty.{no_lie}
use Rattle.lifecycle_core.proofs.laws.honest_journals_tell_no_lie.Goals as goal

pub returns : goal.returns
returns c = λ tick journal kept honest before after e is x y. no_lie before e x y (kept.kinds before after e is) (honest before after e is)
