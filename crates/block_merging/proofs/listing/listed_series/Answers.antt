use Rattle.std.proofs.Common.{◌<◌, ◌^◌, ◌∙◌, arith}
use Rattle.std.proofs.lemmas.List.Elements.{All-get_or}
use Rattle.block_merging.proofs.QueueSteps.{listed_none, listed_more, listed_all}
use Rattle.block_merging.proofs.listing.listed_series.Goals as goal

pub loop-place-init : goal.loop-place-init
loop-place-init c = listed_none c.args.external.now c.args.replicas.now c.args.numbers.now c.args.indexed.now c.new-made.result.items c.new-made.ensures.items

pub bounds-numbers-place : goal.bounds-numbers-place
bounds-numbers-place c = omega (arith, c.requires.as_many, c.loop-place-test.true)

pub listed_one-requires : goal.listed_one-requires
listed_one-requires c = All-get_or (λ n. n < 2 ^ 32) c.args.numbers.now c.loop-place.place 0 (omega (arith, c.requires.as_many, c.loop-place-test.true)) c.requires.small

pub loop-place-preserved : goal.loop-place-preserved
loop-place-preserved c =
    listed_more c.args.external.now c.args.replicas.now c.args.numbers.now c.args.indexed.now c.loop-place.place c.loop-place.made.items c.push.new.self.items c.in_ok-listed_one.field-0 _ c.index-indexed-place.result c.requires.as_many c.loop-place-test.true c.loop-place.invariant
    c.in_ok-listed_one.ensures.reduced c.in_ok-listed_one.ensures.number (c.in_ok-listed_one.ensures.series ∙ c.index-indexed-place.is) c.in_ok-push.ensures.items

pub returns : goal.returns
returns c = listed_all c.args.external.now c.args.replicas.now c.args.numbers.now c.args.indexed.now c.loop-place.place c.loop-place.made.items c.requires.as_many c.loop-place-test.false c.loop-place.invariant
