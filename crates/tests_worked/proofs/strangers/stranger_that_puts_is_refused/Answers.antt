use Rattle.tests_worked.proofs.one.BesideAnUpload.{putting_refused}
use Rattle.tests_worked.proofs.strangers.stranger_that_puts_is_refused.Goals as goal

pub returns : goal.returns
returns c = putting_refused
