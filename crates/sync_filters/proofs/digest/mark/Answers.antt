use Rattle.sync_filters.specs.Holders.{with_bit, mark_of}
use Rattle.sync_filters.proofs.Digests.{folded_more, folded_all}
use Rattle.sync_filters.proofs.digest.mark.Goals as goal

pub loop-source-preserved : goal.loop-source-preserved
loop-source-preserved c = folded_more with_bit c.args.sources.now c.loop-source.source-index c.loop-source.mark c.with_bit-mark.result c.number_of.result c.source-item.result _
    c.loop-source-test.true c.with_bit-mark.ensures c.number_of.ensures c.source-item.is c.loop-source.invariant

pub returns : goal.returns
unfolding mark_of
returns c = folded_all with_bit c.args.sources.now c.loop-source.source-index c.loop-source.mark _ c.loop-source-test.false c.loop-source.invariant
