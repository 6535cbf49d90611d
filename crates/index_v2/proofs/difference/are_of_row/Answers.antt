use Rattle.std.proofs.Common.{◌∙◌, sym, refl, zip}
use Rattle.index_v2.specs.WholeReading.{is_of_row}
use Rattle.index_v2.proofs.RankedGaps.{all_start, all_step, all_stop, all_end}
use Rattle.index_v2.proofs.difference.are_of_row.Goals as goal

pub loop-number-init : goal.loop-number-init
loop-number-init c = λ symbols told listed tells are. all_start (is_of_row (zip c.args.numbers.now listed) told) c.args.list.now

pub returns-then-not-is : goal.returns-then-not-is
returns-then-not-is c =
    λ symbols told listed tells are. all_stop (is_of_row (zip c.args.numbers.now listed) told) c.args.list.now c.loop-number.number-index _ (c.loop-number.invariant symbols told listed tells are) c.loop-number-test.true refl
    (sym (c.is_of_row-is.ensures symbols told listed tells are) ∙ c.if-not-is.true)

pub loop-number-preserved : goal.loop-number-preserved
loop-number-preserved c =
    λ symbols told listed tells are. all_step (is_of_row (zip c.args.numbers.now listed) told) c.args.list.now c.loop-number.number-index _ (c.loop-number.invariant symbols told listed tells are) c.loop-number-test.true refl
    (sym (c.is_of_row-is.ensures symbols told listed tells are) ∙ c.if-not-is.false)

pub returns : goal.returns
returns c = λ symbols told listed tells are. all_end (is_of_row (zip c.args.numbers.now listed) told) c.args.list.now c.loop-number.number-index (c.loop-number.invariant symbols told listed tells are) c.loop-number-test.false
