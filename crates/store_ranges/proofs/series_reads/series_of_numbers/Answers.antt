use Rattle.store_ranges.proofs.Readings.{some_read, none_read, each_refused, behind_none, behind_more}
use Rattle.store_ranges.proofs.series_reads.series_of_numbers.Goals as goal

pub loop-number-init : goal.loop-number-init
loop-number-init c = behind_none _ c.args.numbers.now 0 0 c.args.series.items

pub returns-in-None : goal.returns-in-None
returns-in-None c = each_refused _ c.args.numbers.now c.loop-number.number-index 0 _ c.loop-number-test.true c.loop-number.invariant.1
    (none_read _ _ c.in_ok-one.field-0 c.in-None.is c.in_ok-one.ensures)

pub loop-number-preserved : goal.loop-number-preserved
loop-number-preserved c = behind_more _ c.args.numbers.now c.loop-number.number-index 0 c.args.series.items c.loop-number.all.items c.push.new.self.items c.in-Some.one
    c.loop-number-test.true c.loop-number.invariant (some_read (λ one. one) _ c.in_ok-one.field-0 c.in-Some.one c.in-Some.is c.in_ok-one.ensures) c.in_ok-push-in-Some.ensures.items
