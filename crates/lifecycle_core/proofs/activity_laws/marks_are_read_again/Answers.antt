use Rattle.lifecycle_core.proofs.activities.MarkTexts.{own_mark, mark_text_is, one_mark}
use Rattle.lifecycle_core.proofs.activity_laws.marks_are_read_again.Goals as goal

pub returns-clause-again : goal.returns-clause-again
returns-clause-again c = own_mark

pub returns-clause-text : goal.returns-clause-text
returns-clause-text c = mark_text_is

pub returns-clause-one : goal.returns-clause-one
returns-clause-one c = one_mark
