use Rattle.told_journals.proofs.ToldJournals.{one_account, run_of}
use Rattle.told_journals.proofs.laws.told_journals_are_lawful.Goals as goal

pub returns-clause-run : goal.returns-clause-run
returns-clause-run c = λ setting journal ends told. run_of setting journal ends told.kept told.phases

pub returns-clause-once : goal.returns-clause-once
returns-clause-once c = λ setting journal one other a b. one_account setting journal one other a.phases b.phases
