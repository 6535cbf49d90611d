use Rattle.lifecycle_core.proofs.journals.Unbroken.{explains_nothing, has_no_breach}
use Rattle.lifecycle_core.proofs.laws.unbroken_journals_have_no_breach.Goals as goal

pub returns : goal.returns
returns c = record { unbreached = has_no_breach; unexplained = explains_nothing }
