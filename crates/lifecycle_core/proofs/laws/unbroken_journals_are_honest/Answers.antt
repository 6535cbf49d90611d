use Rattle.lifecycle_core.proofs.journals.UnbrokenHonest.{unbroken_is_honest}
use Rattle.lifecycle_core.proofs.laws.unbroken_journals_are_honest.Goals as goal

pub returns : goal.returns
returns c = unbroken_is_honest
