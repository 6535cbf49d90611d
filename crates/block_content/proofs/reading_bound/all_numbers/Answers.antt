use Rattle.std.proofs.Common.{refl, sym, subst, arith}
use Rattle.block_content.proofs.PlacesOnce.{Numbered, places_to, numbers_start, numbers_in, numbers_step, numbers_out, numbers_end}
use Rattle.block_content.proofs.reading_bound.all_numbers.Goals as goal

pub loop-one-init : goal.loop-one-init
loop-one-init c = subst (Numbered (places_to c.args.indexed.now 0)) (sym c.new-numbers.ensures.items) (numbers_start c.args.indexed.now)

pub loop-place-init : goal.loop-place-init
loop-place-init c = numbers_in c.args.indexed.now c.loop-one.one-index c.chunks-place-items.result.now c.loop-one.numbers.items c.loop-one.invariant

pub loop-place-preserved : goal.loop-place-preserved
loop-place-preserved c =
    subst (Numbered _) (sym c.in_ok-push.ensures.items)
    (numbers_step c.args.indexed.now c.loop-one.one-index c.chunks-place-items.result.now c.loop-place.numbers.items c.loop-place.place-index c.place_number.result _ _ c.loop-place.invariant c.loop-place-test.true refl c.place_number.ensures.number c.place_number.ensures.fits)

pub loop-one-preserved : goal.loop-one-preserved
loop-one-preserved c =
    numbers_out c.args.indexed.now c.loop-one.one-index c.chunks-place-items.result.now c.loop-place.numbers.items c.loop-place.place-index c.one-item.result _ c.loop-place.invariant (omega arith) c.loop-one-test.true c.one-item.is c.chunks-place-items.ensures

pub returns-clause-numbers : goal.returns-clause-numbers
returns-clause-numbers c = (numbers_end c.args.indexed.now c.loop-one.one-index c.loop-one.numbers.items c.loop-one.invariant (omega arith)).are

pub returns-clause-fits : goal.returns-clause-fits
returns-clause-fits c = (numbers_end c.args.indexed.now c.loop-one.one-index c.loop-one.numbers.items c.loop-one.invariant (omega arith)).fit
