use Rattle.std.proofs.Common.{get_or, refl}
use Rattle.series_selection.proofs.Marks.{marks_start, marks_step, marks_end}
use Rattle.series_selection.proofs.marking.mark.Goals as goal

pub loop-number-init : goal.loop-number-init
loop-number-init c = marks_start _ _ _ c.requires.as_many

pub loop-number-preserved : goal.loop-number-preserved
loop-number-preserved c =
    marks_step c.args.numbers.now c.args.list.now c.loop-number.number-index (get_or c.args.list.now c.loop-number.number-index 0) _ _ _ c.loop-number.invariant c.loop-number-test.true refl c.mark_one.ensures.as_many c.mark_one.ensures.marked

pub returns : goal.returns
returns c = marks_end _ _ c.loop-number.number-index _ _ c.loop-number.invariant c.loop-number-test.false
