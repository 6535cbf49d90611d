use Rattle.index_v2.proofs.LabelReading.{answers_err}
use Rattle.index_v2.proofs.LabelTexts.{passing_steps, passing_stops, passing_ends}
use Rattle.index_v2.proofs.series_labels.after_fault.Goals as goal

pub returns-in_err-cursor : goal.returns-in_err-cursor
returns-in_err-cursor c = answers_err _ _ _ _ c.from_residual.ensures.1 (passing_stops _ _ _ _ _ _ c.loop.invariant c.in_err-cursor.ensures c.loop-test.true)

pub loop-preserved : goal.loop-preserved
loop-preserved c = passing_steps _ _ _ _ _ _ _ c.loop.invariant c.in_ok-cursor.ensures c.loop-test.true

pub returns : goal.returns
returns c = passing_ends _ _ _ _ _ c.loop.invariant c.loop-test.false
