use Rattle.std.proofs.Common.{map, [], ap, sym, ◌∙◌}
use Rattle.base.proofs.Lists.{take_none}
use Rattle.block_merging.specs.Queues.{place_pair, listed_pair}
use Rattle.block_merging.proofs.InputWalks.{mapped_more}
use Rattle.block_merging.proofs.listing.places_of.Goals as goal

pub loop-one-init : goal.loop-one-init
loop-one-init c = ap (map place_pair) c.new-places.ensures.items ∙ sym (ap (map listed_pair) (take_none c.args.series.now))

pub loop-one-preserved : goal.loop-one-preserved
loop-one-preserved c =
    mapped_more place_pair listed_pair [] c.loop-one.places.items c.push.new.self.items c.place_of.result c.args.series.now c.loop-one.one-index _ c.loop-one-test.true c.loop-one.invariant (c.place_of.ensures ∙ ap listed_pair c.one-item.is) c.in_ok-push.ensures.items
