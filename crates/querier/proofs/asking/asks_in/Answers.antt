use Rattle.querier.proofs.AskLists.{asks_more}
use Rattle.querier.proofs.asking.asks_in.Goals as goal

pub loop-place-preserved : goal.loop-place-preserved
loop-place-preserved c = asks_more c.args.times.now c.args.partitions.now c.loop-place.place _ c.loop-place.asks c.add_ask.new.asks
    c.loop-place-test.true c.loop-place.invariant c.in_ok-add_ask.ensures
