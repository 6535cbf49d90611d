use Rattle.tests_worked.proofs.one.OneStrict.{late_mark}
use Rattle.tests_worked.proofs.one_strict.late_mark_is_refused.Goals as goal

pub returns : goal.returns
returns c = late_mark
