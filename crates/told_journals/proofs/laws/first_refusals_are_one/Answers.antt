use Rattle.told_journals.proofs.ToldJournals.{one_refusal, whole_unrefused}
use Rattle.told_journals.proofs.laws.first_refusals_are_one.Goals as goal

pub returns-clause-once : goal.returns-clause-once
returns-clause-once c = one_refusal

pub returns-clause-none : goal.returns-clause-none
returns-clause-none c = whole_unrefused
