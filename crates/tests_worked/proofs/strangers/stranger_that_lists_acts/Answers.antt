use Rattle.tests_worked.proofs.one.BesideAnUpload.{acting_listing, not_lawful}
use Rattle.tests_worked.proofs.strangers.stranger_that_lists_acts.Goals as goal

pub returns : goal.returns
returns c = record { acting = acting_listing; unlawful = not_lawful }
