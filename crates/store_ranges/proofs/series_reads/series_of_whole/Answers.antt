use Rattle.std.proofs.Common.{Ok, ap, sym, ◌∙◌}
use Rattle.store_ranges.proofs.Readings.{some_read, none_read, each_none, each_more, each_refused}
use Rattle.store_ranges.proofs.series_reads.series_of_whole.Goals as goal

pub loop-number-init : goal.loop-number-init
loop-number-init c = each_none _ c.args.numbers.now 0 0 ∙ ap Ok (sym c.new-all.ensures.items)

pub returns-in-None : goal.returns-in-None
returns-in-None c = each_refused _ c.args.numbers.now c.loop-number.number-index 0 _ c.loop-number-test.true c.loop-number.invariant
    (none_read _ _ c.in_ok-one.field-0 c.in-None.is c.in_ok-one.ensures)

pub loop-number-preserved : goal.loop-number-preserved
loop-number-preserved c = each_more _ c.args.numbers.now c.loop-number.number-index 0 c.loop-number.all.items c.in-Some.one
    c.loop-number-test.true c.loop-number.invariant (some_read _ _ c.in_ok-one.field-0 c.in-Some.one c.in-Some.is c.in_ok-one.ensures) ∙ ap Ok (sym c.in_ok-push-in-Some.ensures.items)
