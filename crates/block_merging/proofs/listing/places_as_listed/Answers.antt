use Rattle.std.proofs.Common.{◌<◌, ◌^◌, arith, refl}
use Rattle.std.proofs.lemmas.List.Elements.{All-get_or}
use Rattle.block_merging.proofs.WholeListing.{no_places, more_places, all_places}
use Rattle.block_merging.proofs.listing.places_as_listed.Goals as goal

pub loop-place-init : goal.loop-place-init
loop-place-init c = no_places c.args.numbers.now c.args.indexed.now c.in_ok-places.places.items c.in_ok-places.ensures.items

pub bounds-numbers-place : goal.bounds-numbers-place
bounds-numbers-place c = omega (arith, c.requires.as_many, c.loop-place-test.true)

pub place_at-requires : goal.place_at-requires
place_at-requires c = All-get_or (λ n. n < 2 ^ 32) c.args.numbers.now c.loop-place.place 0 (omega (arith, c.requires.as_many, c.loop-place-test.true)) c.requires.small

pub loop-place-preserved : goal.loop-place-preserved
loop-place-preserved c =
    more_places c.args.numbers.now c.args.indexed.now c.loop-place.place c.loop-place.places.items _ c.place_at.result _ c.index-indexed-place.result _ _ c.requires.as_many c.loop-place-test.true refl c.index-indexed-place.is c.place_at.ensures c.in_ok-push.ensures.items c.loop-place.invariant

pub returns : goal.returns
returns c = all_places c.args.numbers.now c.args.indexed.now c.loop-place.place c.loop-place.places.items c.requires.as_many c.loop-place-test.false c.loop-place.invariant
