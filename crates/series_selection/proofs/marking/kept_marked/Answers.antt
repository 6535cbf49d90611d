use Rattle.std.proofs.Common.{false, get_or, refl}
use mathlib.Core.Bool.{beq}
use Rattle.series_selection.proofs.Marks.{keep_step}
use Rattle.series_selection.proofs.marking.kept_marked.Goals as goal

pub loop-place-preserved : goal.loop-place-preserved
loop-place-preserved c =
    keep_step c.args.wanted c.args.marks.now c.args.numbers.now c.loop-place.place (get_or c.args.numbers.now c.loop-place.place 0) (get_or c.args.marks.now c.loop-place.place false) (beq (get_or c.args.marks.now c.loop-place.place false) c.args.wanted)
    c.loop-place.left.items _ c.loop-place.invariant c.loop-place-test.true refl refl refl c.in_ok-keep_where.ensures
